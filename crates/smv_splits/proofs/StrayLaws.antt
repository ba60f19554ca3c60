-- The first stray variable that an expression reads, on expressions that are made of lists and values.
use Rattle.std.proofs.Common.{◌≡◌, ℕ, List, [], ◌∷◌, ◌++◌, map, refl, ap, sym, ◌∙◌, Bool, true, false}
use Rattle.std.specs.Prelude.{Option, Some, None, filter, cond}
use Rattle.smv_core.specs.declared.tree.Op.{Op}
use Rattle.smv_core.specs.declared.flat.Simple.{Simple}
use Rattle.smv_core.specs.declared.flat.FlatSigned.{FlatSigned}
use Rattle.smv_core.specs.declared.flat.FlatMember.{FlatMember, One, Span as SpanOf}
use Rattle.smv_core.specs.declared.flat.FlatExpr.{FlatExpr, Number, Var, Loop, Constant, Not, Iff, Compare, Within, Modulo, Choose, All, Any, Each, Read, Read', And, And', Or, Or', Implies, Implies', Sum, Sum', List as ListOf, List', Row_of-FlatExpr, end_of-FlatExpr, more_of-FlatExpr, Row_of-FlatMember, end_of-FlatMember, more_of-FlatMember, Row_of-FlatSigned, end_of-FlatSigned, more_of-FlatSigned, items-the_row-FlatExpr, items-the_row-FlatMember, items-the_row-FlatSigned, items_hidden-the_row-FlatExpr-0, items_hidden-the_row-FlatSigned-2, items_hidden-the_row-FlatMember-3}
use mathlib.Core.Former.{Count}
use Rattle.law_designs.proofs.FlatLists.{boxes}
use Rattle.smv_mentions.specs.NameFaults.{place_if}
use Rattle.smv_mentions.specs.Scopes.{first_of_places}
use Rattle.smv_first_fault.specs.Firsts.{least}
use Rattle.smv_first_fault.proofs.LeastLaws.{first-assoc, first-none}
use Rattle.law_splits.specs.Variables.{Occurrence, readings, readings_each, readings_signed, readings_members}
use Rattle.smv_splits.specs.Parts.{first_among, first_stray, is_stray, stray_in, member_stray, signed_stray}

module _ (fs : List (Option ℕ)) where
  stray-cons : (r : Occurrence) (rs : List Occurrence) → first_stray fs (r ∷ rs) ≡ first_of_places (least (place_if (is_stray fs r.var) r.at)) (first_stray fs rs)
  stray-cons r rs = by (is_stray fs r.var)
    where
      by : (b : Bool) → least (map (λ (r : Occurrence). r.at) (cond b (r ∷ filter (λ (r : Occurrence). is_stray fs r.var) rs) (filter (λ (r : Occurrence). is_stray fs r.var) rs)))
          ≡ first_of_places (least (place_if b r.at)) (first_stray fs rs)
      by true = refl
      by false = refl

  stray-append : (xs ys : List Occurrence) → first_stray fs (xs ++ ys) ≡ first_of_places (first_stray fs xs) (first_stray fs ys)
  stray-append [] ys = refl
  stray-append (x ∷ xs) ys =
      stray-cons x (xs ++ ys) ∙ ap (first_of_places (least (place_if (is_stray fs x.var) x.at))) (stray-append xs ys)
      ∙ sym (first-assoc (least (place_if (is_stray fs x.var) x.at)) (first_stray fs xs) (first_stray fs ys))
      ∙ ap (λ f. first_of_places f (first_stray fs ys)) (sym (stray-cons x xs))

  exprs-row : (n : _) (row : Row_of-FlatExpr n) → first_stray fs (readings_each row) ≡ first_among (map (stray_in fs) (items-the_row-FlatExpr n row))
  unfolding stray_in
  exprs-row n end_of-FlatExpr = refl
  exprs-row n (more_of-FlatExpr e rest) = stray-append (readings e) (readings_each rest) ∙ ap (first_of_places (stray_in fs e)) (exprs-row _ rest)

  signed-row : (n : _) (row : Row_of-FlatSigned n) → first_stray fs (readings_signed row) ≡ first_among (map (signed_stray fs) (items-the_row-FlatSigned n row))
  unfolding stray_in boxes
  signed-row n end_of-FlatSigned = refl
  signed-row n (more_of-FlatSigned minus e rest) = stray-append (readings e) (readings_signed rest) ∙ ap (first_of_places (stray_in fs e)) (signed-row _ rest)

  members-row : (n : _) (row : Row_of-FlatMember n) → first_stray fs (readings_members row) ≡ first_among (map (member_stray fs) (items-the_row-FlatMember n row))
  unfolding stray_in boxes
  members-row n end_of-FlatMember = refl
  members-row n (more_of-FlatMember (One e) rest) = stray-append (readings e) (readings_members rest) ∙ ap (first_of_places (stray_in fs e)) (members-row _ rest)
  members-row n (more_of-FlatMember (SpanOf span at) rest) = members-row _ rest

  abbrev exprs_in : FlatExpr → (k : Count) × Row_of-FlatExpr k
  exprs_in (Read' family shape row at) = (_, row)
  exprs_in (And' shape row) = (_, row)
  exprs_in (Or' shape row) = (_, row)
  exprs_in (Implies' shape row) = (_, row)
  exprs_in _ = (_, end_of-FlatExpr)

  abbrev members_in : FlatExpr → (k : Count) × Row_of-FlatMember k
  members_in (List' shape row at) = (_, row)
  members_in _ = (_, end_of-FlatMember)

  abbrev signed_in : FlatExpr → (k : Count) × Row_of-FlatSigned k
  signed_in (Sum' f head shape row) = (_, row)
  signed_in _ = (_, end_of-FlatSigned)

  pub stray-Number : (value at : ℕ) → stray_in fs (Number value at) ≡ None
  unfolding stray_in
  stray-Number value at = refl

  pub stray-Var : (var at : ℕ) → stray_in fs (Var var at) ≡ least (place_if (is_stray fs var) at)
  unfolding stray_in
  stray-Var var at = stray-cons (record { var = var; at = at }) [] ∙ first-none (least (place_if (is_stray fs var) at))

  pub stray-Loop : (value at : ℕ) → stray_in fs (Loop value at) ≡ None
  unfolding stray_in
  stray-Loop value at = refl

  pub stray-Constant : (list value at : ℕ) → stray_in fs (Constant list value at) ≡ None
  unfolding stray_in
  stray-Constant list value at = refl

  pub stray-Read : (family : ℕ) (es : List FlatExpr) (at : ℕ) → stray_in fs (Read family es at) ≡ first_among (map (stray_in fs) es)
  unfolding stray_in
  stray-Read family es at = exprs-row (exprs_in (Read family es at)).0 (exprs_in (Read family es at)).1 ∙ ap (λ l. first_among (map (stray_in fs) l)) (items_hidden-the_row-FlatExpr-0 es)

  pub stray-And : (es : List FlatExpr) → stray_in fs (And es) ≡ first_among (map (stray_in fs) es)
  unfolding stray_in
  stray-And es = exprs-row (exprs_in (And es)).0 (exprs_in (And es)).1 ∙ ap (λ l. first_among (map (stray_in fs) l)) (items_hidden-the_row-FlatExpr-0 es)

  pub stray-Or : (es : List FlatExpr) → stray_in fs (Or es) ≡ first_among (map (stray_in fs) es)
  unfolding stray_in
  stray-Or es = exprs-row (exprs_in (Or es)).0 (exprs_in (Or es)).1 ∙ ap (λ l. first_among (map (stray_in fs) l)) (items_hidden-the_row-FlatExpr-0 es)

  pub stray-Implies : (es : List FlatExpr) → stray_in fs (Implies es) ≡ first_among (map (stray_in fs) es)
  unfolding stray_in
  stray-Implies es = exprs-row (exprs_in (Implies es)).0 (exprs_in (Implies es)).1 ∙ ap (λ l. first_among (map (stray_in fs) l)) (items_hidden-the_row-FlatExpr-0 es)

  pub stray-List : (ms : List FlatMember) (at : ℕ) → stray_in fs (ListOf ms at) ≡ first_among (map (member_stray fs) ms)
  unfolding stray_in
  stray-List ms at = members-row (members_in (ListOf ms at)).0 (members_in (ListOf ms at)).1 ∙ ap (λ l. first_among (map (member_stray fs) l)) (items_hidden-the_row-FlatMember-3 ms)

  pub stray-Sum : (head : FlatExpr) (more : List FlatSigned) → stray_in fs (Sum head more) ≡ first_of_places (stray_in fs head) (first_among (map (signed_stray fs) more))
  unfolding stray_in boxes
  stray-Sum head more =
      let row : (k : Count) × Row_of-FlatSigned k = signed_in (Sum head more) in
      stray-append (readings head) (readings_signed row.1)
      ∙ ap (first_of_places (stray_in fs head)) (signed-row row.0 row.1 ∙ ap (λ l. first_among (map (signed_stray fs) l)) (items_hidden-the_row-FlatSigned-2 more))

  pub stray-Not : (e : FlatExpr) (at : ℕ) → stray_in fs (Not e at) ≡ stray_in fs e
  unfolding stray_in boxes
  stray-Not e at = refl

  pub stray-Modulo : (e : FlatExpr) (by at : ℕ) → stray_in fs (Modulo e by at) ≡ stray_in fs e
  unfolding stray_in boxes
  stray-Modulo e by at = refl

  pub stray-Iff : (l r : FlatExpr) → stray_in fs (Iff l r) ≡ first_of_places (stray_in fs l) (stray_in fs r)
  unfolding stray_in boxes
  stray-Iff l r = stray-append (readings l) (readings r)

  pub stray-Compare : (op : Op) (l r : FlatExpr) → stray_in fs (Compare op l r) ≡ first_of_places (stray_in fs l) (stray_in fs r)
  unfolding stray_in boxes
  stray-Compare op l r = stray-append (readings l) (readings r)

  pub stray-Within : (l r : FlatExpr) → stray_in fs (Within l r) ≡ first_of_places (stray_in fs l) (stray_in fs r)
  unfolding stray_in boxes
  stray-Within l r = stray-append (readings l) (readings r)

  pub stray-Choose : (c l r : FlatExpr) → stray_in fs (Choose c l r) ≡ first_of_places (stray_in fs c) (first_of_places (stray_in fs l) (stray_in fs r))
  unfolding stray_in boxes
  stray-Choose c l r =
      stray-append (readings c ++ readings l) (readings r) ∙ ap (λ f. first_of_places f (stray_in fs r)) (stray-append (readings c) (readings l))
      ∙ first-assoc (stray_in fs c) (stray_in fs l) (stray_in fs r)

  pub stray-All : (body : FlatExpr) (var : ℕ) (over : Simple) (at : ℕ) → stray_in fs (All body var over at) ≡ stray_in fs body
  unfolding stray_in boxes
  stray-All body var over at = refl

  pub stray-Any : (body : FlatExpr) (var : ℕ) (over : Simple) (at : ℕ) → stray_in fs (Any body var over at) ≡ stray_in fs body
  unfolding stray_in boxes
  stray-Any body var over at = refl

  pub stray-Each : (var : ℕ) (over : Simple) (at : ℕ) → stray_in fs (Each var over None at) ≡ None
  unfolding stray_in boxes
  stray-Each var over at = refl

  pub stray-Each_if : (var : ℕ) (over : Simple) (cond : FlatExpr) (at : ℕ) → stray_in fs (Each var over (Some cond) at) ≡ stray_in fs cond
  unfolding stray_in boxes
  stray-Each_if var over cond at = refl

pub ruleset equations = (stray-Number, stray-Var, stray-Loop, stray-Constant, stray-Read, stray-And, stray-Or, stray-Implies, stray-List, stray-Sum, stray-Not, stray-Modulo, stray-Iff, stray-Compare, stray-Within, stray-Choose, stray-All, stray-Any, stray-Each, stray-Each_if)
