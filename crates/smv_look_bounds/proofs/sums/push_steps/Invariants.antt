use Rattle.std.proofs.Common.{◌≡◌, ◌++◌, drop, map}
use Rattle.smv_look_bounds.specs.Doubts.{steps_doubts}
use Rattle.smv_look_bounds.specs.Held.{given_of}
use Rattle.smv_look_bounds.proofs.sums.push_steps.Given as goal

abbrev pub invariant-loop-signed : goal.invariant-loop-signed
invariant-loop-signed l =
    l.out.items ++ steps_doubts l.families l.vars (map given_of l.givens) l.at l.by l.total (drop l.signed-index l.more)
    ≡ l.initial.out.items ++ steps_doubts l.families l.vars (map given_of l.givens) l.at l.by l.initial.total l.more
