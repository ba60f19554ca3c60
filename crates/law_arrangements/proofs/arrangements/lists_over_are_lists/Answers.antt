use Rattle.law_arrangements.proofs.Below.{are_lists}
use Rattle.law_arrangements.proofs.arrangements.lists_over_are_lists.Goals as goal

pub returns : goal.returns
returns c case o = are_lists case o
