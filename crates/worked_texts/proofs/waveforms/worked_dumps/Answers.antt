-- By computing.
use Rattle.std.proofs.Common.{refl}
use Rattle.std.specs.Fmt.{digits}
use Rattle.smv_read_report.specs.Reports.{report_of}
use Rattle.smv_waveforms.specs.Values.{code_of}
use Rattle.worked_texts.proofs.waveforms.worked_dumps.Goals as goal

pub returns : goal.returns
unfolding digits report_of code_of
returns c = record { one = refl; several = refl; texts = refl; empty = refl; none = (refl, refl) }
