-- Which formulas and texts are read.
use Rattle.std.specs.Prelude.{List, [], ◌∷◌}
use Rattle.law_formulas.specs.Formulas as f
use Rattle.law_formulas.specs.Formulas.{Formula, FormulaText}
use Rattle.law_formula_grammar.specs.Grammar.{Formulas, With}
use Rattle.smv_parse_formulas.specs.declared.tree.Step.{Step}
use Rattle.smv_parse_formulas.specs.declared.tree.Step.TheVariants.{Later, Under}
use Rattle.smv_parse_formulas.specs.declared.tree.End.{End}
use Rattle.smv_parse_formulas.specs.declared.tree.End.TheVariants.{Single, Unless}
use Rattle.smv_parse_formulas.specs.declared.tree.Placed.{Placed}
use Rattle.smv_parse_formulas.specs.declared.tree.Formula as read
use Rattle.smv_parse_formulas.specs.declared.tree.FormulaTree as tree

-- the formula with these steps before it
abbrev pub behind : List Step → Formula → Formula
behind [] x = x
behind (Later at ∷ steps) x = f.next at (behind steps x)
behind (Under c ∷ steps) x = f.when c (behind steps x)

abbrev pub innermost : End → Formula
innermost (Single e) = f.now e
innermost (Unless p q) = f.weak p q

-- the formula that a read one is
abbrev pub meant : read.Formula → Formula
meant x = behind x.steps (innermost x.end)

-- the formulas that read ones are
abbrev pub meanings : List Placed → Formulas
meanings [] = []
meanings (x ∷ more) = (x.at, meant x.formula) ∷ meanings more

-- a tree with the formulas that read ones are
abbrev pub seen : {A : Type 0} → A × List Placed → With A
seen x = (x.0, meanings x.1)

-- the text with formulas that a read one is
abbrev pub shown : tree.FormulaTree → FormulaText
shown x = record { text = x.text; formulas = meanings x.formulas }
