use Rattle.graph_search.specs.Reverse.{AreNumbers}
use Rattle.graph_search.proofs.reverse.numbers.Given as goal

abbrev pub invariant-loop-number : goal.invariant-loop-number
invariant-loop-number l = AreNumbers l.number l.numbers.items
