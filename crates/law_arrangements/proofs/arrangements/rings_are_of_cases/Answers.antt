use Rattle.law_arrangements.proofs.Rings.{rings_shown, rings_found, rings_differ}
use Rattle.law_arrangements.proofs.arrangements.rings_are_of_cases.Goals as goal

pub returns-clause-shown : goal.returns-clause-shown
returns-clause-shown c case is o ok k s ring = rings_shown case is o ok k s ring

pub returns-clause-found : goal.returns-clause-found
returns-clause-found c case is o ok k a ring = rings_found case is o ok k a ring

pub returns-clause-differ : goal.returns-clause-differ
returns-clause-differ c case is o ok k j s ring not_there = rings_differ case is o ok k j s ring not_there
