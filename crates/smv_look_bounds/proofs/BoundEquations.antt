-- The bounds of expressions that are made of lists and values.
use Rattle.std.proofs.Common.{◌≡◌, ◌∙◌, ℕ, List, map, cond, Option, Some, None, slice_get, refl, ap}
use Rattle.std.specs.Prelude.{option_map}
use mathlib.Core.Former.{Count}
use Rattle.smv_core.specs.declared.tree.Op.{Op}
use Rattle.smv_core.specs.declared.flat.Simple.{Simple}
use Rattle.smv_core.specs.declared.flat.Family.{Family}
use Rattle.smv_core.specs.declared.flat.FlatMember.{FlatMember}
use Rattle.smv_core.specs.declared.flat.FlatSigned.{FlatSigned}
use Rattle.smv_core.specs.declared.flat.FlatExpr.{FlatExpr, Number, Read, Var, Loop, Constant, Not, And, Or, Implies, Iff, Compare, Within, Sum, Sum', Modulo, Choose, All, Any, List as ListOf, Each, Row_of-FlatSigned, end_of-FlatSigned, more_of-FlatSigned, items-the_row-FlatSigned, items_hidden-the_row-FlatExpr-0, items_hidden-the_row-FlatSigned-2}
use Rattle.law_designs.proofs.FlatLists.{boxes}
use Rattle.smv_look_bounds.specs.declared.numbers.Bounds.{Bounds}
use Rattle.smv_look_bounds.specs.Narrowing.{Given, element, variable, index_in}
use Rattle.smv_look_bounds.specs.Bounds.{a_bit, added, bounds, bounds_sum, just, one_of, read_bounds, remainder, value_type}
use Rattle.smv_look_bounds.specs.Held.{bounds_all}

abbrev signed_in : FlatExpr → (k : Count) × Row_of-FlatSigned k
signed_in (Sum' f head shape row) = (_, row)
signed_in _ = (_, end_of-FlatSigned)

module _ (families : List Family) (vars : List Simple) (givens : List Given) where
  row-sum : (n : _) (row : Row_of-FlatSigned n) (b : Option Bounds) → bounds_sum families vars givens b row ≡ bounds_all families vars givens b (items-the_row-FlatSigned n row)
  unfolding bounds boxes
  row-sum n end_of-FlatSigned b = refl
  row-sum n (more_of-FlatSigned minus e rest) b = row-sum _ rest (added minus b (bounds families vars givens e))

  pub bounds-Number : (value at : ℕ) → bounds families vars givens (Number value at) ≡ Some (just value)
  unfolding bounds boxes
  bounds-Number value at = refl

  pub bounds-Read : (family : ℕ) (es : List FlatExpr) (at : ℕ) → bounds families vars givens (Read family es at) ≡ read_bounds givens (element family (map index_in es)) (value_type (slice_get families family))
  unfolding bounds boxes
  bounds-Read family es at = ap (λ l. read_bounds givens (element family (map index_in l)) (value_type (slice_get families family))) (items_hidden-the_row-FlatExpr-0 es)

  pub bounds-Var : (var at : ℕ) → bounds families vars givens (Var var at) ≡ read_bounds givens (variable var) (slice_get vars var)
  unfolding bounds boxes
  bounds-Var var at = refl

  pub bounds-Loop : (value at : ℕ) → bounds families vars givens (Loop value at) ≡ Some (just value)
  unfolding bounds boxes
  bounds-Loop value at = refl

  pub bounds-Constant : (list value at : ℕ) → bounds families vars givens (Constant list value at) ≡ None
  unfolding bounds boxes
  bounds-Constant list value at = refl

  pub bounds-Not : (e : FlatExpr) (at : ℕ) → bounds families vars givens (Not e at) ≡ Some a_bit
  unfolding bounds boxes
  bounds-Not e at = refl

  pub bounds-And : (es : List FlatExpr) → bounds families vars givens (And es) ≡ Some a_bit
  unfolding bounds boxes
  bounds-And es = refl

  pub bounds-Or : (es : List FlatExpr) → bounds families vars givens (Or es) ≡ Some a_bit
  unfolding bounds boxes
  bounds-Or es = refl

  pub bounds-Implies : (es : List FlatExpr) → bounds families vars givens (Implies es) ≡ Some a_bit
  unfolding bounds boxes
  bounds-Implies es = refl

  pub bounds-Iff : (l r : FlatExpr) → bounds families vars givens (Iff l r) ≡ Some a_bit
  unfolding bounds boxes
  bounds-Iff l r = refl

  pub bounds-Compare : (op : Op) (l r : FlatExpr) → bounds families vars givens (Compare op l r) ≡ Some a_bit
  unfolding bounds boxes
  bounds-Compare op l r = refl

  pub bounds-Within : (l r : FlatExpr) → bounds families vars givens (Within l r) ≡ Some a_bit
  unfolding bounds boxes
  bounds-Within l r = refl

  pub bounds-Sum : (head : FlatExpr) (more : List FlatSigned) → bounds families vars givens (Sum head more) ≡ bounds_all families vars givens (bounds families vars givens head) more
  unfolding bounds boxes
  bounds-Sum head more = row-sum (signed_in (Sum head more)).0 (signed_in (Sum head more)).1 (bounds families vars givens head) ∙ ap (bounds_all families vars givens (bounds families vars givens head)) (items_hidden-the_row-FlatSigned-2 more)

  pub bounds-Modulo : (e : FlatExpr) (by at : ℕ) → bounds families vars givens (Modulo e by at) ≡ option_map (remainder by) (bounds families vars givens e)
  unfolding bounds boxes
  bounds-Modulo e by at = refl

  pub bounds-Choose : (c l r : FlatExpr) → bounds families vars givens (Choose c l r) ≡ one_of (bounds families vars givens l) (bounds families vars givens r)
  unfolding bounds boxes
  bounds-Choose c l r = refl

  pub bounds-All : (body : FlatExpr) (var : ℕ) (over : Simple) (at : ℕ) → bounds families vars givens (All body var over at) ≡ Some a_bit
  unfolding bounds boxes
  bounds-All body var over at = refl

  pub bounds-Any : (body : FlatExpr) (var : ℕ) (over : Simple) (at : ℕ) → bounds families vars givens (Any body var over at) ≡ Some a_bit
  unfolding bounds boxes
  bounds-Any body var over at = refl

  pub bounds-List : (members : List FlatMember) (at : ℕ) → bounds families vars givens (ListOf members at) ≡ None
  unfolding bounds boxes
  bounds-List members at = refl

  pub bounds-Each : (var : ℕ) (over : Simple) (cond : Option FlatExpr) (at : ℕ) → bounds families vars givens (Each var over cond at) ≡ None
  unfolding bounds boxes
  bounds-Each var over cond at = refl

pub ruleset equations = (bounds-Number, bounds-Read, bounds-Var, bounds-Loop, bounds-Constant, bounds-Not, bounds-And, bounds-Or, bounds-Implies, bounds-Iff, bounds-Compare, bounds-Within, bounds-Sum, bounds-Modulo, bounds-Choose, bounds-All, bounds-Any, bounds-List, bounds-Each)
