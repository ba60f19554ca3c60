use Rattle.std.proofs.Common.{◌≡◌, ◌-◌, length}
use Rattle.smv_splits.specs.Links.{held, ended}
use Rattle.smv_splits.proofs.chains.follow.Given as goal

abbrev pub invariant-loop-turn : goal.invariant-loop-turn
invariant-loop-turn l = ended l.design (length l.design.splits - l._turn) (held l.chain) ≡ ended l.design (length l.design.splits) (held l.initial.chain)
