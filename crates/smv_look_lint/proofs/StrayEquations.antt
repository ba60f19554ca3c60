-- The strays of right sides that are made of lists and values.
use Rattle.std.proofs.Common.{◌≡◌, ◌∙◌, ℕ, List, [], ◌++◌, refl, ap}
use Rattle.std.specs.Prelude.{Option}
use Rattle.std.specs.List.{flat_map}
use mathlib.Core.Former.{Count}
use Rattle.smv_core.specs.declared.tree.Op.{Op}
use Rattle.smv_core.specs.declared.flat.Simple.{Simple}
use Rattle.smv_core.specs.declared.flat.FlatMember.{FlatMember, One, Span as SpanOf}
use Rattle.smv_core.specs.declared.flat.FlatSigned.{FlatSigned}
use Rattle.smv_core.specs.declared.flat.FlatExpr.{FlatExpr, Number, Read, Var, Loop, Constant, All, Any, Each, List as ListOf, List', Not, Iff, Compare, Within, Modulo, Choose, And, Or, Implies, Sum, Row_of-FlatMember, end_of-FlatMember, more_of-FlatMember, items-the_row-FlatMember, items_hidden-the_row-FlatMember-3}
use Rattle.law_designs.proofs.FlatLists.{boxes}
use Rattle.smv_look_lint.specs.Strays.{member_strays as row_strays, strays, stray_span}
use Rattle.smv_look_lint.specs.Held.{member_strays, stray_of}

module _ (family : ℕ) (over : Simple) where
  members-row : (n : _) (row : Row_of-FlatMember n) → row_strays family over row ≡ flat_map (member_strays family over) (items-the_row-FlatMember n row)
  unfolding strays boxes
  members-row n end_of-FlatMember = refl
  members-row n (more_of-FlatMember (One e) rest) = ap (λ l. strays family over e ++ l) (members-row _ rest)
  members-row n (more_of-FlatMember (SpanOf span at) rest) = ap (λ l. stray_span family over span at ++ l) (members-row _ rest)

  abbrev members_in : FlatExpr → (k : Count) × Row_of-FlatMember k
  members_in (List' shape row at) = (_, row)
  members_in _ = (_, end_of-FlatMember)

  pub stray-Number : (value at : ℕ) → strays family over (Number value at) ≡ stray_of family over (Number value at)
  unfolding strays stray_of
  stray-Number value at = refl

  pub stray-Loop : (value at : ℕ) → strays family over (Loop value at) ≡ stray_of family over (Loop value at)
  unfolding strays stray_of
  stray-Loop value at = refl

  pub stray-Sum : (head : FlatExpr) (more : List FlatSigned) → strays family over (Sum head more) ≡ stray_of family over (Sum head more)
  unfolding strays stray_of boxes
  stray-Sum head more = refl

  pub stray-Modulo : (e : FlatExpr) (by at : ℕ) → strays family over (Modulo e by at) ≡ stray_of family over (Modulo e by at)
  unfolding strays stray_of boxes
  stray-Modulo e by at = refl

  pub stray-List : (members : List FlatMember) (at : ℕ) → strays family over (ListOf members at) ≡ flat_map (member_strays family over) members
  unfolding strays boxes
  stray-List members at = members-row (members_in (ListOf members at)).0 (members_in (ListOf members at)).1 ∙ ap (flat_map (member_strays family over)) (items_hidden-the_row-FlatMember-3 members)

  pub stray-Choose : (c l r : FlatExpr) → strays family over (Choose c l r) ≡ strays family over l ++ strays family over r
  unfolding strays boxes
  stray-Choose c l r = refl

  pub stray-Read : (f : ℕ) (es : List FlatExpr) (at : ℕ) → strays family over (Read f es at) ≡ []
  unfolding strays
  stray-Read f es at = refl

  pub stray-Var : (var at : ℕ) → strays family over (Var var at) ≡ []
  unfolding strays
  stray-Var var at = refl

  pub stray-Constant : (list value at : ℕ) → strays family over (Constant list value at) ≡ []
  unfolding strays
  stray-Constant list value at = refl

  pub stray-Not : (e : FlatExpr) (at : ℕ) → strays family over (Not e at) ≡ []
  unfolding strays
  stray-Not e at = refl

  pub stray-And : (es : List FlatExpr) → strays family over (And es) ≡ []
  unfolding strays
  stray-And es = refl

  pub stray-Or : (es : List FlatExpr) → strays family over (Or es) ≡ []
  unfolding strays
  stray-Or es = refl

  pub stray-Implies : (es : List FlatExpr) → strays family over (Implies es) ≡ []
  unfolding strays
  stray-Implies es = refl

  pub stray-Iff : (l r : FlatExpr) → strays family over (Iff l r) ≡ []
  unfolding strays
  stray-Iff l r = refl

  pub stray-Compare : (op : Op) (l r : FlatExpr) → strays family over (Compare op l r) ≡ []
  unfolding strays
  stray-Compare op l r = refl

  pub stray-Within : (l r : FlatExpr) → strays family over (Within l r) ≡ []
  unfolding strays
  stray-Within l r = refl

  pub stray-All : (body : FlatExpr) (var : ℕ) (each : Simple) (at : ℕ) → strays family over (All body var each at) ≡ []
  unfolding strays
  stray-All body var each at = refl

  pub stray-Any : (body : FlatExpr) (var : ℕ) (each : Simple) (at : ℕ) → strays family over (Any body var each at) ≡ []
  unfolding strays
  stray-Any body var each at = refl

  pub stray-Each : (var : ℕ) (each : Simple) (cond : Option FlatExpr) (at : ℕ) → strays family over (Each var each cond at) ≡ []
  unfolding strays
  stray-Each var each cond at = refl

pub ruleset equations = (stray-Number, stray-Loop, stray-Sum, stray-Modulo, stray-List, stray-Choose, stray-Read, stray-Var, stray-Constant, stray-Not, stray-And, stray-Or, stray-Implies, stray-Iff, stray-Compare, stray-Within, stray-All, stray-Any, stray-Each)
