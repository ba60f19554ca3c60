-- Ten digits.
use Rattle.smv_waveforms.specs.Values.{code_of}
use Rattle.law_waveforms.proofs.Digits.{one, printable}
use Rattle.law_waveforms.proofs.laws.codes_tell.Goals as goal

pub returns : goal.returns
unfolding code_of
returns c = record { differ = one 10; printable = printable 10 }
