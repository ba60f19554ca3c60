-- What expressions may be, on expressions that are made of lists and values.
use Rattle.std.proofs.Common.{◌≡◌, ℕ, ◌+◌, ◌-◌, List, [], ◌∷◌, ◌++◌, map, Some, None, refl, ap, ◌∙◌}
use Rattle.std.specs.List.{flat_map, slice_get}
use Rattle.smv_core.specs.Values.{number, numbers_from, modulo, not_of, iff_of, conjunction, disjunction, implication}
use Rattle.smv_core.specs.Outcome.{branch}
use Rattle.smv_core.specs.declared.tree.Op.{Op}
use Rattle.smv_core.specs.declared.flat.Simple.{Simple}
use Rattle.smv_core.specs.declared.flat.FlatExpr.{FlatExpr, Number, Read, Read', Var, Loop, Not, And, And', Or, Or', Implies, Implies', Iff, Compare, Within, Sum, Sum', Choose, Modulo, All, Any, List as ListOf, List', Row_of-FlatExpr, end_of-FlatExpr, more_of-FlatExpr, items-the_row-FlatExpr, items_hidden-the_row-FlatExpr-0, Row_of-FlatMember, end_of-FlatMember, more_of-FlatMember, items-the_row-FlatMember, items_hidden-the_row-FlatMember-3, Row_of-FlatSigned, end_of-FlatSigned, more_of-FlatSigned, items-the_row-FlatSigned, items_hidden-the_row-FlatSigned-2}
use Rattle.smv_core.specs.declared.flat.FlatMember.{FlatMember, One, Span as SpanOf}
use Rattle.smv_core.specs.declared.flat.FlatSigned.{FlatSigned}
use Rattle.law_obligations.specs.Sets.{one_of_each, pairs}
use Rattle.law_obligations.specs.Places.{Place, AbsOutcome, valued, as_place, named, World, named_in, rests_in, equal_places, where_defined, may_compare, bind_place}
use Rattle.law_obligations.specs.May.{AbsState, Kept, seen, shown, quantified, may_read, may, may_each, may_sum, may_listed, may_members}
use Rattle.law_obligations.specs.Combined.{summed, of_member}
use Rattle.law_obligations.proofs.Computing.{computing}
use mathlib.Core.Former.{Count}

module _ (w : World) (kept : Kept) (a : AbsState) where
  each-row : (m : _) (row : Row_of-FlatExpr m) (b : List Place) → may_each w kept a row b ≡ map (λ e. may w kept a e b) (items-the_row-FlatExpr m row)
  unfolding computing
  each-row m end_of-FlatExpr b = refl
  each-row m (more_of-FlatExpr e rest) b = ap (λ l. may w kept a e b ∷ l) (each-row _ rest b)

  abbrev row_of : FlatExpr → (m : Count) × Row_of-FlatExpr m
  row_of (And' shape row) = (_, row)
  row_of (Or' shape row) = (_, row)
  row_of (Implies' shape row) = (_, row)
  row_of (Read' family shape row at) = (_, row)
  row_of _ = (_, end_of-FlatExpr)

  pub may-And : (es : List FlatExpr) (b : List Place) → may w kept a (And es) b ≡ map (λ us. shown (conjunction (map seen us))) (one_of_each (map (λ e. may w kept a e b) es))
  may-And es b = ap (λ l. map (λ us. shown (conjunction (map seen us))) (one_of_each l)) (each-row (row_of (And es)).0 (row_of (And es)).1 b ∙ ap (map (λ e. may w kept a e b)) (items_hidden-the_row-FlatExpr-0 es))

  pub may-Or : (es : List FlatExpr) (b : List Place) → may w kept a (Or es) b ≡ map (λ us. shown (disjunction (map seen us))) (one_of_each (map (λ e. may w kept a e b) es))
  may-Or es b = ap (λ l. map (λ us. shown (disjunction (map seen us))) (one_of_each l)) (each-row (row_of (Or es)).0 (row_of (Or es)).1 b ∙ ap (map (λ e. may w kept a e b)) (items_hidden-the_row-FlatExpr-0 es))

  pub may-Implies : (es : List FlatExpr) (b : List Place) → may w kept a (Implies es) b ≡ map (λ us. shown (implication (map seen us))) (one_of_each (map (λ e. may w kept a e b) es))
  may-Implies es b = ap (λ l. map (λ us. shown (implication (map seen us))) (one_of_each l)) (each-row (row_of (Implies es)).0 (row_of (Implies es)).1 b ∙ ap (map (λ e. may w kept a e b)) (items_hidden-the_row-FlatExpr-0 es))

  pub may-Read : (family : ℕ) (es : List FlatExpr) (at : ℕ) (b : List Place) → may w kept a (Read family es at) b ≡ flat_map (may_read w kept a family (slice_get w.classes.families family)) (one_of_each (map (λ e. may w kept a e b) es))
  may-Read family es at b = ap (λ l. flat_map (may_read w kept a family (slice_get w.classes.families family)) (one_of_each l)) (each-row (row_of (Read family es at)).0 (row_of (Read family es at)).1 b ∙ ap (map (λ e. may w kept a e b)) (items_hidden-the_row-FlatExpr-0 es))

  pub may-Number : (value at : ℕ) (b : List Place) → may w kept a (Number value at) b ≡ Some (named (number value)) ∷ []
  may-Number value at b = refl

  pub may-Loop : (value at : ℕ) (b : List Place) → may w kept a (Loop value at) b ≡ Some (named (number value)) ∷ []
  may-Loop value at b = refl

  pub may-Var : (var at : ℕ) (b : List Place) → may w kept a (Var var at) b ≡ slice_get b var ∷ []
  may-Var var at b = refl

  pub may-Not : (e : FlatExpr) (at : ℕ) (b : List Place) → may w kept a (Not e at) b ≡ map (λ u. shown (not_of (seen u))) (may w kept a e b)
  unfolding computing
  may-Not e at b = refl

  pub may-Iff : (x y : FlatExpr) (b : List Place) → may w kept a (Iff x y) b ≡ pairs (λ u v. shown (iff_of (seen u) (seen v)) ∷ []) (may w kept a x b) (may w kept a y b)
  unfolding computing
  may-Iff x y b = refl

  pub may-Compare : (op : Op) (x y : FlatExpr) (b : List Place) → may w kept a (Compare op x y) b ≡ pairs (λ u v. map shown (may_compare op u v)) (may w kept a x b) (may w kept a y b)
  unfolding computing
  may-Compare op x y b = refl

  pub may-Choose : (c x y : FlatExpr) (b : List Place) → may w kept a (Choose c x y) b ≡ flat_map (λ u. branch (None ∷ []) (seen u) (may w kept a x b) (may w kept a y b)) (may w kept a c b)
  unfolding computing
  may-Choose c x y b = refl

  pub may-Modulo : (x : FlatExpr) (by at : ℕ) (b : List Place) → may w kept a (Modulo x by at) b ≡ map (λ u. as_place (modulo (valued u) by)) (may w kept a x b)
  unfolding computing
  may-Modulo x by at b = refl

  pub may-All : (body : FlatExpr) (var : ℕ) (over : Simple) (at : ℕ) (b : List Place) → may w kept a (All body var over at) b ≡ quantified conjunction (map (λ p. may w kept a body (bind_place b var p)) (named_in w over)) (flat_map (λ p. may w kept a body (bind_place b var p)) (rests_in w over))
  unfolding computing
  may-All body var over at b = refl

  pub may-Any : (body : FlatExpr) (var : ℕ) (over : Simple) (at : ℕ) (b : List Place) → may w kept a (Any body var over at) b ≡ quantified disjunction (map (λ p. may w kept a body (bind_place b var p)) (named_in w over)) (flat_map (λ p. may w kept a body (bind_place b var p)) (rests_in w over))
  unfolding computing
  may-Any body var over at b = refl

  abbrev members_in : FlatExpr → (m : Count) × Row_of-FlatMember m
  members_in (List' shape row at) = (_, row)
  members_in _ = (_, end_of-FlatMember)

  members-row : (m : _) (row : Row_of-FlatMember m) (b : List Place) → may_members w kept a row b ≡ flat_map (of_member w kept a b) (items-the_row-FlatMember m row)
  unfolding computing
  members-row m end_of-FlatMember b = refl
  members-row m (more_of-FlatMember (One e) rest) b = ap (λ l. may w kept a e b ∷ l) (members-row _ rest b)
  members-row m (more_of-FlatMember (SpanOf span at) rest) b = ap (λ l. map (λ k. Some (named (number k)) ∷ []) (numbers_from span.low (span.high + 1 - span.low)) ++ l) (members-row _ rest b)

  pub may-members : (members : List FlatMember) (at : ℕ) (b : List Place) → may_members w kept a (members_in (ListOf members at)).1 b ≡ flat_map (of_member w kept a b) members
  may-members members at b = members-row (members_in (ListOf members at)).0 (members_in (ListOf members at)).1 b ∙ ap (flat_map (of_member w kept a b)) (items_hidden-the_row-FlatMember-3 members)

  pub may-listed : (members : List FlatMember) (at : ℕ) (b : List Place) → may_listed w kept a (ListOf members at) b ≡ flat_map (of_member w kept a b) members
  may-listed members at b = may-members members at b

  pub may-Within : (x set : FlatExpr) (b : List Place) → may w kept a (Within x set) b ≡ pairs (λ u vs. map (λ ts. shown (disjunction ts)) (one_of_each (map (where_defined equal_places u) vs))) (may w kept a x b) (one_of_each (may_listed w kept a set b))
  unfolding computing
  may-Within x set b = refl

  abbrev signed_in : FlatExpr → (m : Count) × Row_of-FlatSigned m
  signed_in (Sum' f head shape row) = (_, row)
  signed_in _ = (_, end_of-FlatSigned)

  sum-row : (m : _) (row : Row_of-FlatSigned m) (us : List AbsOutcome) (b : List Place) → may_sum w kept a row us b ≡ summed (λ e. may w kept a e b) (items-the_row-FlatSigned m row) us
  unfolding computing
  sum-row m end_of-FlatSigned us b = refl
  sum-row m (more_of-FlatSigned minus e rest) us b = sum-row _ rest _ b

  pub may-Sum : (x : FlatExpr) (more : List FlatSigned) (b : List Place) → may w kept a (Sum x more) b ≡ summed (λ e. may w kept a e b) more (may w kept a x b)
  unfolding computing
  may-Sum x more b =
      let row : (m : Count) × Row_of-FlatSigned m = signed_in (Sum x more) in
      sum-row row.0 row.1 (may w kept a x b) b ∙ ap (λ l. summed (λ e. may w kept a e b) l (may w kept a x b)) (items_hidden-the_row-FlatSigned-2 more)
