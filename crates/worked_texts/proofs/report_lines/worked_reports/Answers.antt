-- By computing.
use Rattle.std.proofs.Common.{refl}
use Rattle.std.specs.Fmt.{digits}
use Rattle.worked_texts.proofs.report_lines.worked_reports.Goals as goal

pub returns : goal.returns
unfolding digits
returns c = record { empty = refl; proved = refl; unknown = (refl, refl); shown = refl; several = refl; generated = (refl, refl) }
