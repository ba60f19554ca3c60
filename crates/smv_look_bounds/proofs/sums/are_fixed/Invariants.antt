use Rattle.std.proofs.Common.{◌≡◌, drop}
use Rattle.smv_look_bounds.specs.Doubts.{are_fixed}
use Rattle.smv_look_bounds.proofs.sums.are_fixed.Given as goal

abbrev pub invariant-loop-signed : goal.invariant-loop-signed
invariant-loop-signed l = are_fixed l.more ≡ are_fixed (drop l.signed-index l.more)
