use Rattle.graph_search.specs.Walks.{lists, follow}
use Rattle.graph_search.specs.Searches.{IsSearch}
use Rattle.graph_search.proofs.search.explore.Given as goal

-- the search so far
abbrev pub invariant-loop-turn : goal.invariant-loop-turn
invariant-loop-turn l = IsSearch (follow (lists l.graph) l.next) l.turn l.initial.seen.items l.seen.items l.initial.queue.items l.queue.items
