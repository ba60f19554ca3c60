use Rattle.law_fault_places.proofs.Rules.{spelled-within}
use Rattle.law_fault_places.proofs.trees.spelled_trees_are_within.Goals as goal

pub returns : goal.returns
returns c = λ n levels tokens tree all spelled. spelled-within n levels tokens tree all spelled
