use Rattle.std.proofs.Common.{◌≡◌, length}
use Rattle.smv_parse_items.specs.Pieces.{read_names, gathered}
use Rattle.smv_parse_items.proofs.Names.{more_parts}
use Rattle.smv_parse_items.proofs.references.leading_names.Given as goal

abbrev pub invariant-loop-alloc : goal.invariant-loop-alloc
invariant-loop-alloc l = read_names l.levels l.fn.first l.tokens ≡ gathered l.path.items l.names.items (more_parts l.levels l.rest)

abbrev pub decreases-loop-alloc : goal.decreases-loop-alloc
decreases-loop-alloc l = length l.rest
