use Rattle.law_arrangements.proofs.Events.{shut_is_none, reached_is_shortest, decisions_agree}
use Rattle.law_arrangements.proofs.Spent.{images_are_spent}
use Rattle.law_arrangements.proofs.arrangements.searches_decide_alike.Goals as goal

pub returns-clause-shut : goal.returns-clause-shut
returns-clause-shut c case is o ok nodes steps k v = shut_is_none case is o ok nodes steps k v

pub returns-clause-reached : goal.returns-clause-reached
returns-clause-reached c case is o ok nodes steps k v = reached_is_shortest case is o ok nodes steps k v

pub returns-clause-agree : goal.returns-clause-agree
returns-clause-agree c case is o ok nodes steps others images v w p q = decisions_agree case is o ok nodes steps others images v w p q

pub returns-clause-spent : goal.returns-clause-spent
returns-clause-spent c case is o ok nodes steps first = images_are_spent case is o ok nodes steps first
