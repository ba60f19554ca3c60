-- What expressions mention, where the expressions are made of lists and values.
use Rattle.std.proofs.Common.{◌≡◌, ℕ, List, ◌∷◌, map, Some, None, false, ◌||◌, refl, ap, ◌∙◌}
use Rattle.std.specs.List.{list_any}
use Rattle.smv_core.specs.Assignments.{Index}
use Rattle.smv_core.specs.FlatMeaning.{flat_index}
use Rattle.smv_core.specs.declared.tree.Op.{Op}
use Rattle.smv_core.specs.declared.flat.Simple.{Simple}
use Rattle.smv_core.specs.declared.flat.Element.{Element}
use Rattle.smv_core.specs.declared.flat.FlatMember.{FlatMember, One, Span as SpanOf}
use Rattle.smv_core.specs.declared.flat.FlatSigned.{FlatSigned}
use Rattle.smv_core.specs.declared.flat.FlatExpr.{FlatExpr, Number, Read, Read', Var, Loop, Constant, Not, And, And', Or, Or', Implies, Implies', Iff, Compare, Within, Sum, Sum', Modulo, Choose, All, Any, List as ListOf, List', Each}
use Rattle.smv_core.specs.declared.flat.FlatExpr.{Row_of-FlatExpr, end_of-FlatExpr, more_of-FlatExpr, Row_of-FlatMember, end_of-FlatMember, more_of-FlatMember, Row_of-FlatSigned, end_of-FlatSigned, more_of-FlatSigned}
use Rattle.smv_core.specs.declared.flat.FlatExpr.{items-the_row-FlatExpr, items-the_row-FlatMember, items-the_row-FlatSigned, items_hidden-the_row-FlatExpr-0, items_hidden-the_row-FlatMember-3, items_hidden-the_row-FlatSigned-2}
use mathlib.Core.Former.{Count}
use Rattle.law_obligations.specs.Reads.{indexes_read}
use Rattle.law_obligations.proofs.Computing.{computing}
use Rattle.smv_may_read.specs.Mentions.{may_be_one, mentioned, each_mentioned, signed_mentioned, members_mentioned, mentions, mentions_signed, mentions_member}

indexes-row : (k : _) (row : Row_of-FlatExpr k) → indexes_read row ≡ map flat_index (items-the_row-FlatExpr k row)
indexes-row k end_of-FlatExpr = refl
indexes-row k (more_of-FlatExpr e rest) = ap (λ l. flat_index e ∷ l) (indexes-row _ rest)

module _ (xs : List Element) where
  exprs-row : (n : _) (row : Row_of-FlatExpr n) → each_mentioned xs row ≡ list_any (mentions xs) (items-the_row-FlatExpr n row)
  unfolding mentions computing
  exprs-row n end_of-FlatExpr = refl
  exprs-row n (more_of-FlatExpr e rest) = ap (λ b. mentioned xs e || b) (exprs-row _ rest)

  members-row : (n : _) (row : Row_of-FlatMember n) → members_mentioned xs row ≡ list_any (mentions_member xs) (items-the_row-FlatMember n row)
  unfolding mentions computing
  members-row n end_of-FlatMember = refl
  members-row n (more_of-FlatMember (One e) rest) = ap (λ b. mentioned xs e || b) (members-row _ rest)
  members-row n (more_of-FlatMember (SpanOf span at) rest) = members-row _ rest

  signed-row : (n : _) (row : Row_of-FlatSigned n) → signed_mentioned xs row ≡ list_any (mentions_signed xs) (items-the_row-FlatSigned n row)
  unfolding mentions computing
  signed-row n end_of-FlatSigned = refl
  signed-row n (more_of-FlatSigned minus e rest) = ap (λ b. mentioned xs e || b) (signed-row _ rest)

  abbrev exprs_of : FlatExpr → (n : Count) × Row_of-FlatExpr n
  exprs_of (And' shape row) = (_, row)
  exprs_of (Or' shape row) = (_, row)
  exprs_of (Implies' shape row) = (_, row)
  exprs_of (Read' family shape row at) = (_, row)
  exprs_of _ = (_, end_of-FlatExpr)

  abbrev members_of : FlatExpr → (n : Count) × Row_of-FlatMember n
  members_of (List' shape row at) = (_, row)
  members_of _ = (_, end_of-FlatMember)

  abbrev sums_of : FlatExpr → (n : Count) × Row_of-FlatSigned n
  sums_of (Sum' f first shape row) = (_, row)
  sums_of _ = (_, end_of-FlatSigned)

  pub mentions-Sum : (first : FlatExpr) (more : List FlatSigned) → mentions xs (Sum first more) ≡ (mentions xs first || list_any (mentions_signed xs) more)
  unfolding mentions computing
  mentions-Sum first more =
      let row : (n : Count) × Row_of-FlatSigned n = sums_of (Sum first more) in
      ap (λ b. mentioned xs first || b) (signed-row _ row.1 ∙ ap (list_any (mentions_signed xs)) (items_hidden-the_row-FlatSigned-2 more))

  pub mentions-Number : (value at : ℕ) → mentions xs (Number value at) ≡ false
  unfolding mentions
  mentions-Number value at = refl

  pub mentions-Var : (var at : ℕ) → mentions xs (Var var at) ≡ false
  unfolding mentions
  mentions-Var var at = refl

  pub mentions-Loop : (value at : ℕ) → mentions xs (Loop value at) ≡ false
  unfolding mentions
  mentions-Loop value at = refl

  pub mentions-Constant : (list value at : ℕ) → mentions xs (Constant list value at) ≡ false
  unfolding mentions
  mentions-Constant list value at = refl

  pub mentions-Read : (family : ℕ) (indexes : List FlatExpr) (at : ℕ) → mentions xs (Read family indexes at) ≡ (may_be_one xs family (map flat_index indexes) || list_any (mentions xs) indexes)
  unfolding mentions
  mentions-Read family indexes at =
      let row : (n : Count) × Row_of-FlatExpr n = exprs_of (Read family indexes at) in
      ap (λ (is : List Index). may_be_one xs family is || each_mentioned xs row.1) (indexes-row row.0 row.1 ∙ ap (map flat_index) (items_hidden-the_row-FlatExpr-0 indexes))
      ∙ ap (λ b. may_be_one xs family (map flat_index indexes) || b) (exprs-row _ row.1 ∙ ap (list_any (mentions xs)) (items_hidden-the_row-FlatExpr-0 indexes))

  pub mentions-And : (parts : List FlatExpr) → mentions xs (And parts) ≡ list_any (mentions xs) parts
  unfolding mentions
  mentions-And parts = exprs-row _ (exprs_of (And parts)).1 ∙ ap (list_any (mentions xs)) (items_hidden-the_row-FlatExpr-0 parts)

  pub mentions-Or : (parts : List FlatExpr) → mentions xs (Or parts) ≡ list_any (mentions xs) parts
  unfolding mentions
  mentions-Or parts = exprs-row _ (exprs_of (Or parts)).1 ∙ ap (list_any (mentions xs)) (items_hidden-the_row-FlatExpr-0 parts)

  pub mentions-Implies : (parts : List FlatExpr) → mentions xs (Implies parts) ≡ list_any (mentions xs) parts
  unfolding mentions
  mentions-Implies parts = exprs-row _ (exprs_of (Implies parts)).1 ∙ ap (list_any (mentions xs)) (items_hidden-the_row-FlatExpr-0 parts)

  pub mentions-List : (members : List FlatMember) (at : ℕ) → mentions xs (ListOf members at) ≡ list_any (mentions_member xs) members
  unfolding mentions
  mentions-List members at = members-row _ (members_of (ListOf members at)).1 ∙ ap (list_any (mentions_member xs)) (items_hidden-the_row-FlatMember-3 members)

  pub mentions-Not : (e : FlatExpr) (at : ℕ) → mentions xs (Not e at) ≡ mentions xs e
  unfolding mentions computing
  mentions-Not e at = refl

  pub mentions-Modulo : (e : FlatExpr) (by at : ℕ) → mentions xs (Modulo e by at) ≡ mentions xs e
  unfolding mentions computing
  mentions-Modulo e by at = refl

  pub mentions-Iff : (x y : FlatExpr) → mentions xs (Iff x y) ≡ (mentions xs x || mentions xs y)
  unfolding mentions computing
  mentions-Iff x y = refl

  pub mentions-Compare : (op : Op) (x y : FlatExpr) → mentions xs (Compare op x y) ≡ (mentions xs x || mentions xs y)
  unfolding mentions computing
  mentions-Compare op x y = refl

  pub mentions-Within : (x y : FlatExpr) → mentions xs (Within x y) ≡ (mentions xs x || mentions xs y)
  unfolding mentions computing
  mentions-Within x y = refl

  pub mentions-Choose : (c x y : FlatExpr) → mentions xs (Choose c x y) ≡ (mentions xs c || (mentions xs x || mentions xs y))
  unfolding mentions computing
  mentions-Choose c x y = refl

  pub mentions-All : (body : FlatExpr) (var : ℕ) (over : Simple) (at : ℕ) → mentions xs (All body var over at) ≡ mentions xs body
  unfolding mentions computing
  mentions-All body var over at = refl

  pub mentions-Any : (body : FlatExpr) (var : ℕ) (over : Simple) (at : ℕ) → mentions xs (Any body var over at) ≡ mentions xs body
  unfolding mentions computing
  mentions-Any body var over at = refl

  pub mentions-Each : (var : ℕ) (over : Simple) (at : ℕ) → mentions xs (Each var over None at) ≡ false
  unfolding mentions computing
  mentions-Each var over at = refl

  pub mentions-Each_if : (var : ℕ) (over : Simple) (cond : FlatExpr) (at : ℕ) → mentions xs (Each var over (Some cond) at) ≡ mentions xs cond
  unfolding mentions computing
  mentions-Each_if var over cond at = refl

pub ruleset equations = (mentions-Number, mentions-Var, mentions-Loop, mentions-Constant, mentions-Read, mentions-And, mentions-Or, mentions-Implies, mentions-List, mentions-Sum, mentions-Not, mentions-Modulo, mentions-Iff, mentions-Compare, mentions-Within, mentions-Choose, mentions-All, mentions-Any, mentions-Each, mentions-Each_if)
