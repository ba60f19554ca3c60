-- The variables that expressions read, where the expressions are made of lists and values.
use Rattle.std.proofs.Common.{◌≡◌, ℕ, List, Some, None, Bool, true, false, ◌&&◌, ◌||◌, nat_eq, nat_lt, refl, ap, ◌∙◌}
use Rattle.std.specs.List.{list_any}
use Rattle.smv_core.specs.declared.tree.Op.{Op}
use Rattle.smv_core.specs.declared.flat.Simple.{Simple}
use Rattle.smv_core.specs.declared.flat.FlatMember.{FlatMember, One, Span as SpanOf}
use Rattle.smv_core.specs.declared.flat.FlatSigned.{FlatSigned}
use Rattle.smv_core.specs.declared.flat.FlatExpr.{FlatExpr, Number, Read, Read', Var, Loop, Constant, Not, And, And', Or, Or', Implies, Implies', Iff, Compare, Within, Sum, Sum', Modulo, Choose, All, Any, List as ListOf, List', Each}
use Rattle.smv_core.specs.declared.flat.FlatExpr.{Row_of-FlatExpr, end_of-FlatExpr, more_of-FlatExpr, Row_of-FlatMember, end_of-FlatMember, more_of-FlatMember, Row_of-FlatSigned, end_of-FlatSigned, more_of-FlatSigned}
use Rattle.smv_core.specs.declared.flat.FlatExpr.{items-the_row-FlatExpr, items-the_row-FlatMember, items-the_row-FlatSigned, items_hidden-the_row-FlatExpr-0, items_hidden-the_row-FlatMember-3, items_hidden-the_row-FlatSigned-2}
use mathlib.Core.Former.{Count}
use Rattle.law_obligations.proofs.Computing.{computing}
use Rattle.law_obligations.specs.FreeReads.{reads, one_reads, signed_read, members_read}
use Rattle.smv_free_variables.specs.Reading.{occurs, occurs_signed, occurs_member}

and_none : (b : Bool) → (b && false) ≡ false
and_none true = refl
and_none false = refl

module _ (k : ℕ) where
  exprs-row : (n : _) (row : Row_of-FlatExpr n) → one_reads k row ≡ list_any (occurs k) (items-the_row-FlatExpr n row)
  unfolding occurs computing
  exprs-row n end_of-FlatExpr = refl
  exprs-row n (more_of-FlatExpr e rest) = ap (λ b. reads k e || b) (exprs-row _ rest)

  members-row : (n : _) (row : Row_of-FlatMember n) → members_read k row ≡ list_any (occurs_member k) (items-the_row-FlatMember n row)
  unfolding occurs computing
  members-row n end_of-FlatMember = refl
  members-row n (more_of-FlatMember (One e) rest) = ap (λ b. reads k e || b) (members-row _ rest)
  members-row n (more_of-FlatMember (SpanOf span at) rest) = members-row _ rest

  signed-row : (n : _) (row : Row_of-FlatSigned n) → signed_read k row ≡ list_any (occurs_signed k) (items-the_row-FlatSigned n row)
  unfolding occurs computing
  signed-row n end_of-FlatSigned = refl
  signed-row n (more_of-FlatSigned minus e rest) = ap (λ b. reads k e || b) (signed-row _ rest)

  abbrev exprs_of : FlatExpr → (n : Count) × Row_of-FlatExpr n
  exprs_of (And' shape row) = (_, row)
  exprs_of (Or' shape row) = (_, row)
  exprs_of (Implies' shape row) = (_, row)
  exprs_of (Read' family shape row at) = (_, row)
  exprs_of _ = (_, end_of-FlatExpr)

  abbrev members_of : FlatExpr → (n : Count) × Row_of-FlatMember n
  members_of (List' shape row at) = (_, row)
  members_of _ = (_, end_of-FlatMember)

  abbrev sums_of : FlatExpr → (n : Count) × Row_of-FlatSigned n
  sums_of (Sum' f first shape row) = (_, row)
  sums_of _ = (_, end_of-FlatSigned)

  pub occurs-Sum : (first : FlatExpr) (more : List FlatSigned) → occurs k (Sum first more) ≡ (occurs k first || list_any (occurs_signed k) more)
  unfolding occurs computing
  occurs-Sum first more =
      let row : (n : Count) × Row_of-FlatSigned n = sums_of (Sum first more) in
      ap (λ b. reads k first || b) (signed-row _ row.1 ∙ ap (list_any (occurs_signed k)) (items_hidden-the_row-FlatSigned-2 more))

  pub occurs-Number : (value at : ℕ) → occurs k (Number value at) ≡ false
  unfolding occurs
  occurs-Number value at = refl

  pub occurs-Var : (var at : ℕ) → occurs k (Var var at) ≡ nat_eq var k
  unfolding occurs
  occurs-Var var at = refl

  pub occurs-Loop : (value at : ℕ) → occurs k (Loop value at) ≡ false
  unfolding occurs
  occurs-Loop value at = refl

  pub occurs-Constant : (list value at : ℕ) → occurs k (Constant list value at) ≡ false
  unfolding occurs
  occurs-Constant list value at = refl

  pub occurs-Read : (family : ℕ) (indexes : List FlatExpr) (at : ℕ) → occurs k (Read family indexes at) ≡ list_any (occurs k) indexes
  unfolding occurs
  occurs-Read family indexes at = exprs-row _ (exprs_of (Read family indexes at)).1 ∙ ap (list_any (occurs k)) (items_hidden-the_row-FlatExpr-0 indexes)

  pub occurs-And : (parts : List FlatExpr) → occurs k (And parts) ≡ list_any (occurs k) parts
  unfolding occurs
  occurs-And parts = exprs-row _ (exprs_of (And parts)).1 ∙ ap (list_any (occurs k)) (items_hidden-the_row-FlatExpr-0 parts)

  pub occurs-Or : (parts : List FlatExpr) → occurs k (Or parts) ≡ list_any (occurs k) parts
  unfolding occurs
  occurs-Or parts = exprs-row _ (exprs_of (Or parts)).1 ∙ ap (list_any (occurs k)) (items_hidden-the_row-FlatExpr-0 parts)

  pub occurs-Implies : (parts : List FlatExpr) → occurs k (Implies parts) ≡ list_any (occurs k) parts
  unfolding occurs
  occurs-Implies parts = exprs-row _ (exprs_of (Implies parts)).1 ∙ ap (list_any (occurs k)) (items_hidden-the_row-FlatExpr-0 parts)

  pub occurs-List : (members : List FlatMember) (at : ℕ) → occurs k (ListOf members at) ≡ list_any (occurs_member k) members
  unfolding occurs
  occurs-List members at = members-row _ (members_of (ListOf members at)).1 ∙ ap (list_any (occurs_member k)) (items_hidden-the_row-FlatMember-3 members)

  pub occurs-Not : (e : FlatExpr) (at : ℕ) → occurs k (Not e at) ≡ occurs k e
  unfolding occurs computing
  occurs-Not e at = refl

  pub occurs-Modulo : (e : FlatExpr) (by at : ℕ) → occurs k (Modulo e by at) ≡ occurs k e
  unfolding occurs computing
  occurs-Modulo e by at = refl

  pub occurs-Iff : (x y : FlatExpr) → occurs k (Iff x y) ≡ (occurs k x || occurs k y)
  unfolding occurs computing
  occurs-Iff x y = refl

  pub occurs-Compare : (op : Op) (x y : FlatExpr) → occurs k (Compare op x y) ≡ (occurs k x || occurs k y)
  unfolding occurs computing
  occurs-Compare op x y = refl

  pub occurs-Within : (x y : FlatExpr) → occurs k (Within x y) ≡ (occurs k x || occurs k y)
  unfolding occurs computing
  occurs-Within x y = refl

  pub occurs-Choose : (c x y : FlatExpr) → occurs k (Choose c x y) ≡ (occurs k c || (occurs k x || occurs k y))
  unfolding occurs computing
  occurs-Choose c x y = refl

  pub occurs-All : (body : FlatExpr) (var : ℕ) (over : Simple) (at : ℕ) → occurs k (All body var over at) ≡ (nat_lt k var && occurs k body)
  unfolding occurs computing
  occurs-All body var over at = refl

  pub occurs-Any : (body : FlatExpr) (var : ℕ) (over : Simple) (at : ℕ) → occurs k (Any body var over at) ≡ (nat_lt k var && occurs k body)
  unfolding occurs computing
  occurs-Any body var over at = refl

  pub occurs-Each : (var : ℕ) (over : Simple) (at : ℕ) → occurs k (Each var over None at) ≡ false
  unfolding occurs computing
  occurs-Each var over at = and_none (nat_lt k var)

  pub occurs-Each_if : (var : ℕ) (over : Simple) (cond : FlatExpr) (at : ℕ) → occurs k (Each var over (Some cond) at) ≡ (nat_lt k var && occurs k cond)
  unfolding occurs computing
  occurs-Each_if var over cond at = refl

pub ruleset equations = (occurs-Number, occurs-Var, occurs-Loop, occurs-Constant, occurs-Read, occurs-And, occurs-Or, occurs-Implies, occurs-List, occurs-Sum, occurs-Not, occurs-Modulo, occurs-Iff, occurs-Compare, occurs-Within, occurs-Choose, occurs-All, occurs-Any, occurs-Each, occurs-Each_if)
