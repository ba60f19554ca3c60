use Rattle.std.proofs.Common.{◌≡◌, length}
use Rattle.law_grammar.proofs.Steps.{resumed}
use Rattle.smv_parse_items.proofs.Loops.{more_bodies}
use Rattle.smv_parse_items.proofs.items.bodies.Given as goal

abbrev pub invariant-loop-alloc : goal.invariant-loop-alloc
invariant-loop-alloc l = more_bodies l.levels l.tokens ≡ resumed l.items.items (more_bodies l.levels l.rest)

abbrev pub decreases-loop-alloc : goal.decreases-loop-alloc
decreases-loop-alloc l = length l.rest
