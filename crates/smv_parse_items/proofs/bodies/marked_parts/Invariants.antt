use Rattle.std.proofs.Common.{◌≡◌, length}
use Rattle.smv_parse_items.specs.Pieces.{read_parts, divided}
use Rattle.smv_parse_items.proofs.Marked.{more_marked}
use Rattle.smv_parse_items.proofs.bodies.marked_parts.Given as goal

abbrev pub invariant-loop-alloc : goal.invariant-loop-alloc
invariant-loop-alloc l = read_parts l.levels l.tokens ≡ divided l.parts.items l.vars (more_marked l.levels l.rest)

abbrev pub decreases-loop-alloc : goal.decreases-loop-alloc
decreases-loop-alloc l = length l.rest
