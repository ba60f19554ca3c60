use Rattle.worked_texts.proofs.WorkedConditions.{small-whole, machine-whole}
use Rattle.worked_texts.proofs.single_assignment.conditions_are_met.Goals as goal

pub returns-clause-small : goal.returns-clause-small
returns-clause-small c = small-whole

pub returns-clause-tomasulo : goal.returns-clause-tomasulo
returns-clause-tomasulo c = machine-whole
