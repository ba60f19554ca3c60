use Rattle.std.proofs.Common.{◌≡◌, length}
use Rattle.smv_look_aiger.proofs.codes.put_code.Given as goal

abbrev pub invariant-loop : goal.invariant-loop
invariant-loop l = length l.bits.items ≡ length l.initial.bits.items
