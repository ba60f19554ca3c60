-- The kinds of expressions that are made of lists and values.
use Rattle.std.proofs.Common.{◌≡◌, ℕ, List, ◌∷◌, map, refl, ap, ◌∙◌}
use Rattle.std.specs.Prelude.{Option, slice_get}
use Rattle.smv_core.specs.declared.tree.Op.{Op}
use Rattle.smv_core.specs.declared.flat.Simple.{Simple}
use Rattle.smv_core.specs.declared.flat.FlatText.{FlatText}
use Rattle.smv_core.specs.declared.flat.FlatSigned.{FlatSigned}
use Rattle.smv_core.specs.declared.flat.FlatMember.{FlatMember, One, Span as SpanOf}
use Rattle.smv_core.specs.declared.flat.FlatExpr.{FlatExpr, Number, Var, Loop, Constant, Not, Iff, Compare, Within, Modulo, Choose, All, Any, Each, Read, And, Or, Implies, Sum, List as ListOf, List', Row_of-FlatMember, end_of-FlatMember, more_of-FlatMember, items-the_row-FlatMember, items_hidden-the_row-FlatMember-3}
use mathlib.Core.Former.{Count}
use Rattle.law_designs.proofs.FlatLists.{boxes}
use Rattle.law_designs.specs.FlatKinds.{FlatVars, number, enumeration, kind_of, joined}
use Rattle.smv_symmetric.specs.Plain.{value_kind, variable_kind, joined_all, kind_in, member_kinds, member_kind}

module _ (flat_text : FlatText) (vars : FlatVars) where
  members-row : (n : _) (row : Row_of-FlatMember n) → member_kinds flat_text vars row ≡ map (member_kind flat_text vars) (items-the_row-FlatMember n row)
  unfolding kind_in
  members-row n end_of-FlatMember = refl
  members-row n (more_of-FlatMember (One e) rest) = ap (λ l. kind_in flat_text vars e ∷ l) (members-row _ rest)
  members-row n (more_of-FlatMember (SpanOf span at) rest) = ap (λ l. number ∷ l) (members-row _ rest)

  abbrev members_in : FlatExpr → (k : Count) × Row_of-FlatMember k
  members_in (List' shape row at) = (_, row)
  members_in _ = (_, end_of-FlatMember)

  pub kind-Number : (value at : ℕ) → kind_in flat_text vars (Number value at) ≡ number
  unfolding kind_in
  kind-Number value at = refl

  pub kind-Read : (family : ℕ) (es : List FlatExpr) (at : ℕ) → kind_in flat_text vars (Read family es at) ≡ value_kind (slice_get flat_text.families family)
  unfolding kind_in
  kind-Read family es at = refl

  pub kind-Var : (var at : ℕ) → kind_in flat_text vars (Var var at) ≡ variable_kind (slice_get vars var)
  unfolding kind_in
  kind-Var var at = refl

  pub kind-Loop : (value at : ℕ) → kind_in flat_text vars (Loop value at) ≡ number
  unfolding kind_in
  kind-Loop value at = refl

  pub kind-Constant : (list value at : ℕ) → kind_in flat_text vars (Constant list value at) ≡ enumeration list
  unfolding kind_in
  kind-Constant list value at = refl

  pub kind-Not : (e : FlatExpr) (at : ℕ) → kind_in flat_text vars (Not e at) ≡ number
  unfolding kind_in
  kind-Not e at = refl

  pub kind-And : (es : List FlatExpr) → kind_in flat_text vars (And es) ≡ number
  unfolding kind_in
  kind-And es = refl

  pub kind-Or : (es : List FlatExpr) → kind_in flat_text vars (Or es) ≡ number
  unfolding kind_in
  kind-Or es = refl

  pub kind-Implies : (es : List FlatExpr) → kind_in flat_text vars (Implies es) ≡ number
  unfolding kind_in
  kind-Implies es = refl

  pub kind-Iff : (l r : FlatExpr) → kind_in flat_text vars (Iff l r) ≡ number
  unfolding kind_in
  kind-Iff l r = refl

  pub kind-Compare : (op : Op) (l r : FlatExpr) → kind_in flat_text vars (Compare op l r) ≡ number
  unfolding kind_in
  kind-Compare op l r = refl

  pub kind-Within : (l r : FlatExpr) → kind_in flat_text vars (Within l r) ≡ number
  unfolding kind_in
  kind-Within l r = refl

  pub kind-Sum : (head : FlatExpr) (more : List FlatSigned) → kind_in flat_text vars (Sum head more) ≡ number
  unfolding kind_in
  kind-Sum head more = refl

  pub kind-Modulo : (e : FlatExpr) (by at : ℕ) → kind_in flat_text vars (Modulo e by at) ≡ number
  unfolding kind_in
  kind-Modulo e by at = refl

  pub kind-Choose : (c l r : FlatExpr) → kind_in flat_text vars (Choose c l r) ≡ joined (kind_in flat_text vars l) (kind_in flat_text vars r)
  unfolding kind_in boxes
  kind-Choose c l r = refl

  pub kind-All : (body : FlatExpr) (var : ℕ) (over : Simple) (at : ℕ) → kind_in flat_text vars (All body var over at) ≡ number
  unfolding kind_in
  kind-All body var over at = refl

  pub kind-Any : (body : FlatExpr) (var : ℕ) (over : Simple) (at : ℕ) → kind_in flat_text vars (Any body var over at) ≡ number
  unfolding kind_in
  kind-Any body var over at = refl

  pub kind-List : (ms : List FlatMember) (at : ℕ) → kind_in flat_text vars (ListOf ms at) ≡ joined_all (map (member_kind flat_text vars) ms)
  unfolding kind_in
  kind-List ms at = ap joined_all (members-row (members_in (ListOf ms at)).0 (members_in (ListOf ms at)).1 ∙ ap (map (member_kind flat_text vars)) (items_hidden-the_row-FlatMember-3 ms))

  pub kind-Each : (var : ℕ) (over : Simple) (cond : Option FlatExpr) (at : ℕ) → kind_in flat_text vars (Each var over cond at) ≡ kind_of over
  unfolding kind_in
  kind-Each var over cond at = refl

pub ruleset equations = (kind-Number, kind-Read, kind-Var, kind-Loop, kind-Constant, kind-Not, kind-And, kind-Or, kind-Implies, kind-Iff, kind-Compare, kind-Within, kind-Sum, kind-Modulo, kind-Choose, kind-All, kind-Any, kind-List, kind-Each)
