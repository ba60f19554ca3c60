-- Which formulas are expressions, and what one more step makes of a formula.
use Rattle.std.proofs.Common.{◌≡◌, ◌<◌, ◌≤◌, ℕ, List, [], ◌∷◌, length, refl, arith}
use Rattle.smv_core.specs.declared.tree.Expr.{Expr, Number}
use Rattle.law_formulas.specs.Formulas.{Formula, next, when}
use Rattle.law_formula_grammar.specs.Grammar.{body_of, listed}
use Rattle.smv_parse_formulas.specs.declared.tree.Step.{Step}
use Rattle.smv_parse_formulas.specs.declared.tree.Step.TheVariants.{Later, Under}
use Rattle.smv_parse_formulas.specs.declared.tree.Formula as read
use Rattle.smv_parse_formulas.specs.Trees.{behind, meant}

pub behind_none : (steps : List Step) (x : Formula) → length steps ≤ 0 → behind steps x ≡ x
behind_none [] x l = refl
behind_none (s ∷ steps) x l = absurd (omega arith)

pub body_several : (steps : List Step) (x : Formula) (at : ℕ) → 0 < length steps → body_of (behind steps x) at ≡ Number 1 at
body_several [] x at l = absurd (omega arith)
body_several (Later k ∷ steps) x at l = refl
body_several (Under c ∷ steps) x at l = refl

pub listed_several : (steps : List Step) (x : Formula) (at : ℕ) → 0 < length steps → listed (behind steps x) at ≡ (at, behind steps x) ∷ []
listed_several [] x at l = absurd (omega arith)
listed_several (Later k ∷ steps) x at l = refl
listed_several (Under c ∷ steps) x at l = refl

pub later_meant : (made inner : read.Formula) (at : ℕ) → made.steps ≡ Later at ∷ inner.steps → made.end ≡ inner.end → meant made ≡ next at (meant inner)
later_meant made inner at e k = rw e (rw k refl)

pub under_meant : (made inner : read.Formula) (condition : Expr) → made.steps ≡ Under condition ∷ inner.steps → made.end ≡ inner.end → meant made ≡ when condition (meant inner)
under_meant made inner condition e k = rw e (rw k refl)
