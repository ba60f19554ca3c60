use Rattle.law_reports.proofs.Decided.{one_unit, one_each}
use Rattle.law_reports.proofs.verdicts.one_verdict.Goals as goal

pub returns-clause-leaves : goal.returns-clause-leaves
returns-clause-leaves c s bits nodes steps u entry v w a b = one_unit s nodes steps bits u entry v w a b

pub returns-clause-scripts : goal.returns-clause-scripts
returns-clause-scripts c s bits nodes steps vs ws a b = one_each s nodes steps bits vs ws a b
