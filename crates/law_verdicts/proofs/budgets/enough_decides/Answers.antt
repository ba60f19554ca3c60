use Rattle.law_verdicts.proofs.Enough.{steps_are_few, nodes_are_few, enough_decides}
use Rattle.law_verdicts.proofs.budgets.enough_decides.Goals as goal

pub returns-clause-steps : goal.returns-clause-steps
returns-clause-steps c s bits nodes steps u entry are r is case e = steps_are_few s bits nodes steps u entry are r is case e

pub returns-clause-nodes : goal.returns-clause-nodes
returns-clause-nodes c s bits nodes steps u entry r is case count e = nodes_are_few s bits nodes steps u entry r is case count e

pub returns-clause-decided : goal.returns-clause-decided
returns-clause-decided c s bits nodes steps u entry are enough r is = enough_decides s bits nodes steps u entry are enough r is
