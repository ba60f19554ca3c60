use Rattle.law_uses.proofs.There.{one_choice_each, choices_are_there}
use Rattle.law_uses.proofs.laws.choices_are_there.Goals as goal

pub returns-clause-each : goal.returns-clause-each
returns-clause-each c = one_choice_each

pub returns-clause-there : goal.returns-clause-there
returns-clause-there c = choices_are_there
