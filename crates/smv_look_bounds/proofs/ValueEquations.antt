-- The values that right sides give that are made of lists and values.
use Rattle.std.proofs.Common.{◌≡◌, ◌∙◌, ℕ, List, ◌++◌, true, false, cond, Option, refl, ap}
use Rattle.std.specs.List.{flat_map}
use mathlib.Core.Former.{Count}
use Rattle.smv_core.specs.declared.tree.Op.{Op}
use Rattle.smv_core.specs.declared.flat.Simple.{Simple}
use Rattle.smv_core.specs.declared.flat.Family.{Family}
use Rattle.smv_core.specs.declared.flat.FlatMember.{FlatMember, One, Span as SpanOf}
use Rattle.smv_core.specs.declared.flat.FlatSigned.{FlatSigned}
use Rattle.smv_core.specs.declared.flat.FlatExpr.{FlatExpr, Number, Read, Var, Loop, Constant, Not, And, Or, Implies, Iff, Compare, Within, Sum, Modulo, Choose, All, Any, List as ListOf, List', Each, Row_of-FlatMember, end_of-FlatMember, more_of-FlatMember, items-the_row-FlatMember, items_hidden-the_row-FlatMember-3}
use Rattle.law_designs.proofs.FlatLists.{boxes}
use Rattle.smv_look_bounds.specs.Narrowing.{Given}
use Rattle.smv_look_bounds.specs.Doubts.{under, value_doubt, values, values_members}
use Rattle.smv_look_bounds.specs.Held.{member_values}

abbrev members_in : FlatExpr → (k : Count) × Row_of-FlatMember k
members_in (List' shape row at) = (_, row)
members_in _ = (_, end_of-FlatMember)

module _ (families : List Family) (over : Simple) (vars : List Simple) where
  row-members : (givens : List Given) (n : _) (row : Row_of-FlatMember n) → values_members families over vars givens row ≡ flat_map (member_values families over vars givens) (items-the_row-FlatMember n row)
  unfolding values boxes
  row-members givens n end_of-FlatMember = refl
  row-members givens n (more_of-FlatMember (One e) rest) = ap (λ l. values families over vars givens e ++ l) (row-members givens _ rest)
  row-members givens n (more_of-FlatMember (SpanOf span at) rest) = row-members givens _ rest

  pub values-Number : (givens : List Given) (value at : ℕ) → values families over vars givens (Number value at) ≡ value_doubt families vars givens over (Number value at)
  unfolding values boxes
  values-Number givens value at = refl

  pub values-Read : (givens : List Given) (family : ℕ) (es : List FlatExpr) (at : ℕ) → values families over vars givens (Read family es at) ≡ value_doubt families vars givens over (Read family es at)
  unfolding values boxes
  values-Read givens family es at = refl

  pub values-Var : (givens : List Given) (var at : ℕ) → values families over vars givens (Var var at) ≡ value_doubt families vars givens over (Var var at)
  unfolding values boxes
  values-Var givens var at = refl

  pub values-Loop : (givens : List Given) (value at : ℕ) → values families over vars givens (Loop value at) ≡ value_doubt families vars givens over (Loop value at)
  unfolding values boxes
  values-Loop givens value at = refl

  pub values-Constant : (givens : List Given) (list value at : ℕ) → values families over vars givens (Constant list value at) ≡ value_doubt families vars givens over (Constant list value at)
  unfolding values boxes
  values-Constant givens list value at = refl

  pub values-Not : (givens : List Given) (e : FlatExpr) (at : ℕ) → values families over vars givens (Not e at) ≡ value_doubt families vars givens over (Not e at)
  unfolding values boxes
  values-Not givens e at = refl

  pub values-And : (givens : List Given) (es : List FlatExpr) → values families over vars givens (And es) ≡ value_doubt families vars givens over (And es)
  unfolding values boxes
  values-And givens es = refl

  pub values-Or : (givens : List Given) (es : List FlatExpr) → values families over vars givens (Or es) ≡ value_doubt families vars givens over (Or es)
  unfolding values boxes
  values-Or givens es = refl

  pub values-Implies : (givens : List Given) (es : List FlatExpr) → values families over vars givens (Implies es) ≡ value_doubt families vars givens over (Implies es)
  unfolding values boxes
  values-Implies givens es = refl

  pub values-Iff : (givens : List Given) (l r : FlatExpr) → values families over vars givens (Iff l r) ≡ value_doubt families vars givens over (Iff l r)
  unfolding values boxes
  values-Iff givens l r = refl

  pub values-Compare : (givens : List Given) (op : Op) (l r : FlatExpr) → values families over vars givens (Compare op l r) ≡ value_doubt families vars givens over (Compare op l r)
  unfolding values boxes
  values-Compare givens op l r = refl

  pub values-Within : (givens : List Given) (l r : FlatExpr) → values families over vars givens (Within l r) ≡ value_doubt families vars givens over (Within l r)
  unfolding values boxes
  values-Within givens l r = refl

  pub values-Sum : (givens : List Given) (head : FlatExpr) (more : List FlatSigned) → values families over vars givens (Sum head more) ≡ value_doubt families vars givens over (Sum head more)
  unfolding values boxes
  values-Sum givens head more = refl

  pub values-Modulo : (givens : List Given) (e : FlatExpr) (by at : ℕ) → values families over vars givens (Modulo e by at) ≡ value_doubt families vars givens over (Modulo e by at)
  unfolding values boxes
  values-Modulo givens e by at = refl

  pub values-Choose : (givens : List Given) (c l r : FlatExpr) → values families over vars givens (Choose c l r) ≡ values families over vars (under givens true c) l ++ values families over vars (under givens false c) r
  unfolding values boxes
  values-Choose givens c l r = refl

  pub values-All : (givens : List Given) (body : FlatExpr) (var : ℕ) (each : Simple) (at : ℕ) → values families over vars givens (All body var each at) ≡ value_doubt families vars givens over (All body var each at)
  unfolding values boxes
  values-All givens body var each at = refl

  pub values-Any : (givens : List Given) (body : FlatExpr) (var : ℕ) (each : Simple) (at : ℕ) → values families over vars givens (Any body var each at) ≡ value_doubt families vars givens over (Any body var each at)
  unfolding values boxes
  values-Any givens body var each at = refl

  pub values-List : (givens : List Given) (members : List FlatMember) (at : ℕ) → values families over vars givens (ListOf members at) ≡ flat_map (member_values families over vars givens) members
  unfolding values boxes
  values-List givens members at = row-members givens (members_in (ListOf members at)).0 (members_in (ListOf members at)).1 ∙ ap (flat_map (member_values families over vars givens)) (items_hidden-the_row-FlatMember-3 members)

  pub values-Each : (givens : List Given) (var : ℕ) (each : Simple) (cond : Option FlatExpr) (at : ℕ) → values families over vars givens (Each var each cond at) ≡ value_doubt families vars givens over (Each var each cond at)
  unfolding values boxes
  values-Each givens var each cond at = refl

pub ruleset equations = (values-Number, values-Read, values-Var, values-Loop, values-Constant, values-Not, values-And, values-Or, values-Implies, values-Iff, values-Compare, values-Within, values-Sum, values-Modulo, values-Choose, values-All, values-Any, values-List, values-Each)
