use Rattle.std.proofs.Common.{◌≡◌, length}
use Rattle.law_grammar.specs.Items.{body_marks}
use Rattle.law_formula_grammar.specs.Readers.{read_body, item_reader}
use Rattle.smv_parse_formulas.specs.Trees.{meanings}
use Rattle.smv_parse_formulas.specs.Pieces.{read_all, gathered}
use Rattle.smv_parse_formulas.proofs.Loops.{more_bodies}
use Rattle.smv_parse_formulas.proofs.items.bodies.Given as goal

abbrev pub invariant-loop-alloc : goal.invariant-loop-alloc
invariant-loop-alloc l = read_all body_marks (read_body l.levels (item_reader l.levels)) l.tokens ≡ gathered l.items.items (meanings l.formulas) (more_bodies l.levels l.rest)

abbrev pub decreases-loop-alloc : goal.decreases-loop-alloc
decreases-loop-alloc l = length l.rest
