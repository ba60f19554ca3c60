use Rattle.worked_texts.proofs.Meets.{small-meets, machine-meets}
use Rattle.worked_texts.proofs.conditions.conditions_are_met.Goals as goal

pub returns-clause-small : goal.returns-clause-small
returns-clause-small c = small-meets

pub returns-clause-tomasulo : goal.returns-clause-tomasulo
returns-clause-tomasulo c = machine-meets
