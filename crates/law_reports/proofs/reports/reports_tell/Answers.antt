use Rattle.law_reports.proofs.Decided.{one_each}
use Rattle.law_reports.specs.Reports.{told_of}
use Rattle.law_reports.proofs.Told.{are_told, all_told}
use Rattle.law_reports.proofs.reports.reports_tell.Goals as goal

pub returns-clause-tells : goal.returns-clause-tells
returns-clause-tells c s bits nodes images report is = are_told s bits nodes images 0 s.entries report.units is.units

pub returns-clause-one : goal.returns-clause-one
returns-clause-one c s bits nodes images report other is other_is =
    one_each s nodes images bits (told_of report.units) (told_of other.units) (are_told s bits nodes images 0 s.entries report.units is.units) (are_told s bits nodes images 0 s.entries other.units other_is.units)

pub returns-clause-true_units : goal.returns-clause-true_units
returns-clause-true_units c report all = all_told report.units all
