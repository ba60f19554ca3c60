use Rattle.std.proofs.Common.{◌≡◌, length}
use Rattle.smv_look_aiger.proofs.codes.bits_of.Given as goal

abbrev pub invariant-loop-width : goal.invariant-loop-width
invariant-loop-width l = length l.bits.items ≡ l.count
