-- The lines of all units, and the last one.
use Rattle.smv_read_report.specs.Reports.{report_of}
use Rattle.law_read_reports.proofs.Readings.{all_read}
use Rattle.law_read_reports.proofs.laws.written_is_read.Goals as goal

pub returns : goal.returns
unfolding report_of
returns c = λ r fine. all_read r.design r.units fine
