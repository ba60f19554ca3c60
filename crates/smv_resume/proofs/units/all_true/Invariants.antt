use Rattle.std.proofs.Common.{take}
use Rattle.law_reports.specs.Reports.{AllTrueUnits}
use Rattle.smv_resume.proofs.units.all_true.Given as goal

abbrev pub invariant-loop-told : goal.invariant-loop-told
invariant-loop-told l = AllTrueUnits (take l.told-index l.results)
