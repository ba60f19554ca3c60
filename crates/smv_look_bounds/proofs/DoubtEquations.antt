-- What is doubted of expressions that are made of lists and values.
use Rattle.std.proofs.Common.{◌≡◌, ◌∙◌, ℕ, List, [], ◌++◌, true, false, Some, None, refl, ap, ap₂}
use Rattle.std.specs.List.{flat_map}
use mathlib.Core.Former.{Count}
use Rattle.smv_core.specs.declared.tree.Op.{Op}
use Rattle.smv_core.specs.declared.flat.Simple.{Simple}
use Rattle.smv_core.specs.declared.flat.Family.{Family}
use Rattle.smv_core.specs.declared.flat.FlatMember.{FlatMember, One, Span as SpanOf}
use Rattle.smv_core.specs.declared.flat.FlatSigned.{FlatSigned}
use Rattle.smv_core.specs.declared.flat.FlatExpr.{FlatExpr, Number, Read, Read', Var, Loop, Constant, Not, And, And', Or, Or', Implies, Implies', Iff, Compare, Within, Sum, Sum', Modulo, Choose, All, Any, List as ListOf, List', Each, Row_of-FlatExpr, end_of-FlatExpr, more_of-FlatExpr, Row_of-FlatMember, end_of-FlatMember, more_of-FlatMember, Row_of-FlatSigned, end_of-FlatSigned, more_of-FlatSigned, items-the_row-FlatExpr, items-the_row-FlatMember, items-the_row-FlatSigned, items_hidden-the_row-FlatExpr-0, items_hidden-the_row-FlatSigned-2, items_hidden-the_row-FlatMember-3}
use Rattle.law_designs.proofs.FlatLists.{boxes}
use Rattle.smv_look_bounds.specs.declared.doubts.Doubt.{Doubt}
use Rattle.smv_look_bounds.specs.Narrowing.{Given}
use Rattle.smv_look_bounds.specs.Doubts.{bound, condition_doubt, doubts, doubts_each, doubts_implied, doubts_members, doubts_terms, read_doubts, sum_doubts, under}
use Rattle.smv_look_bounds.specs.Held.{implied_doubts, member_doubts, term_doubts}

abbrev exprs_of : FlatExpr → (k : Count) × Row_of-FlatExpr k
exprs_of (Read' family shape row at) = (_, row)
exprs_of (And' shape row) = (_, row)
exprs_of (Or' shape row) = (_, row)
exprs_of (Implies' shape row) = (_, row)
exprs_of _ = (_, end_of-FlatExpr)

abbrev members_in : FlatExpr → (k : Count) × Row_of-FlatMember k
members_in (List' shape row at) = (_, row)
members_in _ = (_, end_of-FlatMember)

abbrev signed_in : FlatExpr → (k : Count) × Row_of-FlatSigned k
signed_in (Sum' f head shape row) = (_, row)
signed_in _ = (_, end_of-FlatSigned)

module _ (families : List Family) where
  row-each : (vars : List Simple) (givens : List Given) (n : _) (row : Row_of-FlatExpr n) → doubts_each families vars givens row ≡ flat_map (doubts families vars givens) (items-the_row-FlatExpr n row)
  unfolding doubts
  row-each vars givens n end_of-FlatExpr = refl
  row-each vars givens n (more_of-FlatExpr e rest) = ap (λ l. doubts families vars givens e ++ l) (row-each vars givens _ rest)

  row-implied : (vars : List Simple) (givens : List Given) (n : _) (row : Row_of-FlatExpr n) → doubts_implied families vars givens row ≡ implied_doubts families vars givens (items-the_row-FlatExpr n row)
  unfolding doubts
  row-implied vars givens n end_of-FlatExpr = refl
  row-implied vars givens n (more_of-FlatExpr e rest) = ap (λ l. doubts families vars givens e ++ l) (row-implied vars (under givens true e) _ rest)

  row-terms : (vars : List Simple) (givens : List Given) (n : _) (row : Row_of-FlatSigned n) → doubts_terms families vars givens row ≡ flat_map (term_doubts families vars givens) (items-the_row-FlatSigned n row)
  unfolding doubts boxes
  row-terms vars givens n end_of-FlatSigned = refl
  row-terms vars givens n (more_of-FlatSigned minus e rest) = ap (λ l. doubts families vars givens e ++ l) (row-terms vars givens _ rest)

  row-members : (vars : List Simple) (givens : List Given) (n : _) (row : Row_of-FlatMember n) → doubts_members families vars givens row ≡ flat_map (member_doubts families vars givens) (items-the_row-FlatMember n row)
  unfolding doubts boxes
  row-members vars givens n end_of-FlatMember = refl
  row-members vars givens n (more_of-FlatMember (One e) rest) = ap (λ l. doubts families vars givens e ++ l) (row-members vars givens _ rest)
  row-members vars givens n (more_of-FlatMember (SpanOf span at) rest) = row-members vars givens _ rest

  pub doubts-Number : (vars : List Simple) (givens : List Given) (value at : ℕ) → doubts families vars givens (Number value at) ≡ []
  unfolding doubts boxes
  doubts-Number vars givens value at = refl

  pub doubts-Read : (vars : List Simple) (givens : List Given) (family : ℕ) (es : List FlatExpr) (at : ℕ) → doubts families vars givens (Read family es at) ≡ read_doubts families vars givens family es ++ flat_map (doubts families vars givens) es
  unfolding doubts boxes
  doubts-Read vars givens family es at = ap₂ (λ (x y : List Doubt). x ++ y) (ap (read_doubts families vars givens family) (items_hidden-the_row-FlatExpr-0 es)) (row-each vars givens (exprs_of (Read family es at)).0 (exprs_of (Read family es at)).1 ∙ ap (flat_map (doubts families vars givens)) (items_hidden-the_row-FlatExpr-0 es))

  pub doubts-Var : (vars : List Simple) (givens : List Given) (var at : ℕ) → doubts families vars givens (Var var at) ≡ []
  unfolding doubts boxes
  doubts-Var vars givens var at = refl

  pub doubts-Loop : (vars : List Simple) (givens : List Given) (value at : ℕ) → doubts families vars givens (Loop value at) ≡ []
  unfolding doubts boxes
  doubts-Loop vars givens value at = refl

  pub doubts-Constant : (vars : List Simple) (givens : List Given) (list value at : ℕ) → doubts families vars givens (Constant list value at) ≡ []
  unfolding doubts boxes
  doubts-Constant vars givens list value at = refl

  pub doubts-Not : (vars : List Simple) (givens : List Given) (e : FlatExpr) (at : ℕ) → doubts families vars givens (Not e at) ≡ doubts families vars givens e
  unfolding doubts boxes
  doubts-Not vars givens e at = refl

  pub doubts-And : (vars : List Simple) (givens : List Given) (es : List FlatExpr) → doubts families vars givens (And es) ≡ flat_map (doubts families vars (under givens true (And es))) es
  unfolding doubts boxes
  doubts-And vars givens es = row-each vars (under givens true (And es)) (exprs_of (And es)).0 (exprs_of (And es)).1 ∙ ap (flat_map (doubts families vars (under givens true (And es)))) (items_hidden-the_row-FlatExpr-0 es)

  pub doubts-Or : (vars : List Simple) (givens : List Given) (es : List FlatExpr) → doubts families vars givens (Or es) ≡ flat_map (doubts families vars (under givens false (Or es))) es
  unfolding doubts boxes
  doubts-Or vars givens es = row-each vars (under givens false (Or es)) (exprs_of (Or es)).0 (exprs_of (Or es)).1 ∙ ap (flat_map (doubts families vars (under givens false (Or es)))) (items_hidden-the_row-FlatExpr-0 es)

  pub doubts-Implies : (vars : List Simple) (givens : List Given) (es : List FlatExpr) → doubts families vars givens (Implies es) ≡ implied_doubts families vars givens es
  unfolding doubts boxes
  doubts-Implies vars givens es = row-implied vars givens (exprs_of (Implies es)).0 (exprs_of (Implies es)).1 ∙ ap (implied_doubts families vars givens) (items_hidden-the_row-FlatExpr-0 es)

  pub doubts-Iff : (vars : List Simple) (givens : List Given) (l r : FlatExpr) → doubts families vars givens (Iff l r) ≡ doubts families vars givens l ++ doubts families vars givens r
  unfolding doubts boxes
  doubts-Iff vars givens l r = refl

  pub doubts-Compare : (vars : List Simple) (givens : List Given) (op : Op) (l r : FlatExpr) → doubts families vars givens (Compare op l r) ≡ doubts families vars givens l ++ doubts families vars givens r
  unfolding doubts boxes
  doubts-Compare vars givens op l r = refl

  pub doubts-Within : (vars : List Simple) (givens : List Given) (l r : FlatExpr) → doubts families vars givens (Within l r) ≡ doubts families vars givens l ++ doubts families vars givens r
  unfolding doubts boxes
  doubts-Within vars givens l r = refl

  pub doubts-Sum : (vars : List Simple) (givens : List Given) (head : FlatExpr) (more : List FlatSigned) → doubts families vars givens (Sum head more) ≡ sum_doubts families vars givens head more ++ doubts families vars givens head ++ flat_map (term_doubts families vars givens) more
  unfolding doubts boxes
  doubts-Sum vars givens head more = ap₂ (λ (x y : List Doubt). x ++ doubts families vars givens head ++ y) (ap (sum_doubts families vars givens head) (items_hidden-the_row-FlatSigned-2 more)) (row-terms vars givens (signed_in (Sum head more)).0 (signed_in (Sum head more)).1 ∙ ap (flat_map (term_doubts families vars givens)) (items_hidden-the_row-FlatSigned-2 more))

  pub doubts-Modulo : (vars : List Simple) (givens : List Given) (e : FlatExpr) (by at : ℕ) → doubts families vars givens (Modulo e by at) ≡ doubts families vars givens e
  unfolding doubts boxes
  doubts-Modulo vars givens e by at = refl

  pub doubts-Choose : (vars : List Simple) (givens : List Given) (c l r : FlatExpr) → doubts families vars givens (Choose c l r) ≡ condition_doubt c ++ doubts families vars givens c ++ doubts families vars (under givens true c) l ++ doubts families vars (under givens false c) r
  unfolding doubts boxes
  doubts-Choose vars givens c l r = refl

  pub doubts-All : (vars : List Simple) (givens : List Given) (body : FlatExpr) (var : ℕ) (over : Simple) (at : ℕ) → doubts families vars givens (All body var over at) ≡ doubts families (bound vars var over) givens body
  unfolding doubts boxes
  doubts-All vars givens body var over at = refl

  pub doubts-Any : (vars : List Simple) (givens : List Given) (body : FlatExpr) (var : ℕ) (over : Simple) (at : ℕ) → doubts families vars givens (Any body var over at) ≡ doubts families (bound vars var over) givens body
  unfolding doubts boxes
  doubts-Any vars givens body var over at = refl

  pub doubts-List : (vars : List Simple) (givens : List Given) (members : List FlatMember) (at : ℕ) → doubts families vars givens (ListOf members at) ≡ flat_map (member_doubts families vars givens) members
  unfolding doubts boxes
  doubts-List vars givens members at = row-members vars givens (members_in (ListOf members at)).0 (members_in (ListOf members at)).1 ∙ ap (flat_map (member_doubts families vars givens)) (items_hidden-the_row-FlatMember-3 members)

  pub doubts-Each : (vars : List Simple) (givens : List Given) (var : ℕ) (over : Simple) (at : ℕ) → doubts families vars givens (Each var over None at) ≡ []
  unfolding doubts boxes
  doubts-Each vars givens var over at = refl

  pub doubts-Each_if : (vars : List Simple) (givens : List Given) (var : ℕ) (over : Simple) (e : FlatExpr) (at : ℕ) → doubts families vars givens (Each var over (Some e) at) ≡ doubts families (bound vars var over) givens e
  unfolding doubts boxes
  doubts-Each_if vars givens var over e at = refl

pub ruleset equations = (doubts-Number, doubts-Read, doubts-Var, doubts-Loop, doubts-Constant, doubts-Not, doubts-And, doubts-Or, doubts-Implies, doubts-Iff, doubts-Compare, doubts-Within, doubts-Sum, doubts-Modulo, doubts-Choose, doubts-All, doubts-Any, doubts-List, doubts-Each, doubts-Each_if)
