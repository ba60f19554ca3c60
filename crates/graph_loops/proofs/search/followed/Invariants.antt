use Rattle.std.proofs.Common.{ℕ, ◌<◌, List}
use Rattle.graph_loops.specs.declared.edges.Edge.{Edge}
use Rattle.graph_loops.specs.Marks.{AreMarks, steps_of}
use Rattle.graph_loops.proofs.FollowLaws.{IsFront}
use Rattle.graph_loops.proofs.search.followed.Given as goal

abbrev pub invariant-loop-turn : goal.invariant-loop-turn
invariant-loop-turn l = (graph : List (List Edge)) (target most : ℕ) → AreMarks graph target most l.marks → 0 < steps_of l.marks l.node → IsFront graph target l.marks l.node l._turn l.at l.places.items
