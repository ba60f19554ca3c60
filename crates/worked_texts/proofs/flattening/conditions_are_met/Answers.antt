use Rattle.worked_texts.proofs.Right.{small-meets, machine-meets}
use Rattle.worked_texts.proofs.flattening.conditions_are_met.Goals as goal

pub returns-clause-small : goal.returns-clause-small
returns-clause-small c = small-meets

pub returns-clause-tomasulo : goal.returns-clause-tomasulo
returns-clause-tomasulo c = machine-meets
