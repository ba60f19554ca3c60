use Rattle.std.proofs.Common.{take}
use Rattle.graph_search.specs.Walks.{lists}
use Rattle.graph_search.specs.Reverse.{IsNoted}
use Rattle.graph_search.proofs.reverse.note_all.Given as goal

abbrev pub invariant-loop-place : goal.invariant-loop-place
invariant-loop-place l = IsNoted (take l.place-index l.nodes) l.node (lists l.initial.back.items) (lists l.back.items)
