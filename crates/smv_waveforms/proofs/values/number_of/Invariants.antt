use Rattle.std.proofs.Common.{◌≡◌, take, min}
use Rattle.smv_waveforms.specs.Values.{number_of}
use Rattle.smv_waveforms.proofs.values.number_of.Given as goal

abbrev pub invariant-loop-digit : goal.invariant-loop-digit
invariant-loop-digit l = l.number ≡ min (number_of (take l.digit-index l.digits)) 65536
