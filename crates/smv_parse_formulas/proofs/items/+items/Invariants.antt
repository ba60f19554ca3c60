use Rattle.std.proofs.Common.{◌≡◌, ◌+◌, ◌*◌, length}
use Rattle.law_grammar.specs.Items.{item_marks}
use Rattle.law_formula_grammar.specs.Readers.{read_item, item_reader}
use Rattle.smv_parse_formulas.specs.Trees.{meanings}
use Rattle.smv_parse_formulas.specs.Pieces.{read_all, gathered}
use Rattle.smv_parse_formulas.proofs.Loops.{more_items}
use Rattle.smv_parse_formulas.proofs.items.+items.Given as goal

abbrev pub decreases-forall : goal.decreases-forall
decreases-forall l = 4 * l.levels

abbrev pub decreases-block : goal.decreases-block
decreases-block l = 4 * l.levels

abbrev pub decreases-other_item : goal.decreases-other_item
decreases-other_item l = 4 * l.levels + 1

abbrev pub decreases-item : goal.decreases-item
decreases-item l = 4 * l.levels + 2

abbrev pub decreases-items : goal.decreases-items
decreases-items l = 4 * l.levels + 3

abbrev pub invariant-items-loop-alloc : goal.invariant-items-loop-alloc
invariant-items-loop-alloc l = read_all item_marks (read_item l.levels (item_reader l.levels)) l.tokens ≡ gathered l.items.items (meanings l.formulas) (more_items l.levels l.rest)

abbrev pub decreases-items-loop-alloc : goal.decreases-items-loop-alloc
decreases-items-loop-alloc l = length l.rest
