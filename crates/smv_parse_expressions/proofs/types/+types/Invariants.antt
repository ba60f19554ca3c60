use Rattle.std.proofs.Common.{◌≡◌, ◌+◌, ◌*◌, length}
use Rattle.law_grammar.proofs.Steps.{resumed}
use Rattle.smv_parse_expressions.proofs.Loops.{more_fields}
use Rattle.smv_parse_expressions.proofs.types.+types.Given as goal

-- a structure reads its fields with a level fewer, and the others call within theirs
abbrev pub decreases-array : goal.decreases-array
decreases-array l = 4 * l.levels

abbrev pub decreases-structure : goal.decreases-structure
decreases-structure l = 4 * l.levels

abbrev pub decreases-type_expr : goal.decreases-type_expr
decreases-type_expr l = 4 * l.levels + 1

abbrev pub decreases-field : goal.decreases-field
decreases-field l = 4 * l.levels + 2

abbrev pub decreases-fields : goal.decreases-fields
decreases-fields l = 4 * l.levels + 3

abbrev pub invariant-fields-loop-alloc : goal.invariant-fields-loop-alloc
invariant-fields-loop-alloc l = more_fields l.levels l.tokens ≡ resumed l.items.items (more_fields l.levels l.rest)

abbrev pub decreases-fields-loop-alloc : goal.decreases-fields-loop-alloc
decreases-fields-loop-alloc l = length l.rest
