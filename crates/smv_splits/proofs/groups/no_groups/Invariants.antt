use Rattle.std.proofs.Common.{◌≡◌, [], replicate}
use Rattle.graph_search.specs.Walks.{lists}
use Rattle.smv_splits.proofs.groups.no_groups.Given as goal

abbrev pub invariant-loop-place : goal.invariant-loop-place
invariant-loop-place l = lists l.groups.items ≡ replicate l._place []
