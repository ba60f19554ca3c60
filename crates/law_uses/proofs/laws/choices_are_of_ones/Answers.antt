use Rattle.law_uses.proofs.There.{own_is_no_pick}
use Rattle.law_uses.proofs.Ones.{choices_are_of_ones}
use Rattle.law_uses.proofs.laws.choices_are_of_ones.Goals as goal

pub returns-clause-own : goal.returns-clause-own
returns-clause-own c = own_is_no_pick

pub returns-clause-ones : goal.returns-clause-ones
returns-clause-ones c = choices_are_of_ones
