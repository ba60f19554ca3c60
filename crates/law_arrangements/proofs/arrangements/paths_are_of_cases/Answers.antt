use Rattle.law_arrangements.proofs.Paths.{is_shown, paths_found, lengths_to, lengths_from}
use Rattle.law_arrangements.proofs.arrangements.paths_are_of_cases.Goals as goal

pub returns-clause-shown : goal.returns-clause-shown
returns-clause-shown c case is o ok k path v = is_shown case is o ok k path v

pub returns-clause-found : goal.returns-clause-found
returns-clause-found c case is o ok k states e v = paths_found case is o ok k states e v

pub returns-clause-same : goal.returns-clause-same
returns-clause-same c case is o ok k = (λ p. lengths_to case is o ok k p, λ p. lengths_from case is o ok k p)
