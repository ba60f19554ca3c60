use Rattle.std.proofs.Common.{◌≡◌}
use Rattle.law_obligations.specs.Codes.{code_from}
use Rattle.smv_readings.specs.States.{bits_in}
use Rattle.smv_readings.proofs.readings.spelled.Given as goal

abbrev pub invariant-loop-bit : goal.invariant-loop-bit
invariant-loop-bit l = l.code ≡ code_from (bits_in l.bits) 0 l.bit-index
