use Rattle.std.proofs.Common.{◌≡◌, ◌+◌, ◌*◌, length}
use Rattle.law_grammar.proofs.Steps.{resumed}
use Rattle.smv_parse_items.proofs.Loops.{more_items}
use Rattle.smv_parse_items.proofs.items.+items.Given as goal

abbrev pub decreases-forall : goal.decreases-forall
decreases-forall l = 4 * l.levels

abbrev pub decreases-block : goal.decreases-block
decreases-block l = 4 * l.levels

abbrev pub decreases-other_item : goal.decreases-other_item
decreases-other_item l = 4 * l.levels + 1

abbrev pub decreases-item : goal.decreases-item
decreases-item l = 4 * l.levels + 2

abbrev pub decreases-items : goal.decreases-items
decreases-items l = 4 * l.levels + 3

abbrev pub invariant-items-loop-alloc : goal.invariant-items-loop-alloc
invariant-items-loop-alloc l = more_items l.levels l.tokens ≡ resumed l.items.items (more_items l.levels l.rest)

abbrev pub decreases-items-loop-alloc : goal.decreases-items-loop-alloc
decreases-items-loop-alloc l = length l.rest
