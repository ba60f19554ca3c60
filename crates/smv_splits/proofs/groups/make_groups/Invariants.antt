use Rattle.graph_search.specs.Walks.{lists}
use Rattle.smv_splits.proofs.GroupLaws.{AreGroupsTo}
use Rattle.smv_splits.proofs.groups.make_groups.Given as goal

abbrev pub invariant-loop-number : goal.invariant-loop-number
invariant-loop-number l = AreGroupsTo l.names (lists l.groups.items) l.number
