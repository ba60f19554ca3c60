-- An expression whose variables have other numbers has the same kind, and keeps the same orders, where these numbers have the same kinds.
use Rattle.std.proofs.Common.{◌≡◌, ℕ, suc, ◌+◌, ◌-◌, ◌<◌, ◌≤◌, List, [], ◌∷◌, ◌++◌, length, refl, sym, ap, subst, ◌∙◌, ◌⊎◌, arith, inl, inr, Some, not, ◌&&◌, ◌||◌, nat_eq, nat_lt, nat_le, is_some}
use Rattle.std.specs.List.{slice_get}
use Rattle.std.proofs.lemmas.List.{length-append}
use Rattle.std.proofs.lemmas.Bool.{cases_Bool}
use Rattle.law_lists.proofs.Numbers.{nat_eq-same}
use Rattle.law_lists.proofs.Places.{get_there}
use Rattle.smv_core.specs.declared.flat.Simple.{Simple}
use Rattle.smv_core.specs.declared.flat.FlatText.{FlatText}
use Rattle.smv_core.specs.declared.flat.FlatMember.{One, Span as SpanOf}
use Rattle.smv_core.specs.declared.flat.FlatExpr.{FlatExpr, Number, Read', Var, Loop, Constant, Not', And', Or', Implies', Iff', Compare', Within', Sum', Modulo', Choose', All', Any', List', Each', None', Some', Row_of-FlatExpr, end_of-FlatExpr, more_of-FlatExpr, Row_of-FlatMember, end_of-FlatMember, more_of-FlatMember, Row_of-FlatSigned, end_of-FlatSigned, more_of-FlatSigned}
use Rattle.law_obligations.specs.Sets.{Has, first}
use Rattle.law_obligations.proofs.Members.{Has-left, Has-right}
use Rattle.law_obligations.proofs.OneOfEach.{get_after}
use Rattle.law_designs.specs.FlatKinds.{FlatKind, number, FlatVars, kind_of, takes, are_numbers, number_if, common, compares, chosen, element, inside, is_index_type, is_binder, kind_in, kinds_in, summands, members_in, looked_through}
use Rattle.smv_problem.specs.WellFormed.{is_order, has_order, keeps_orders, all_keep_orders, signed_keep_orders, members_keep_orders}
use Rattle.law_splits.specs.Variables.{Occurrence, readings, readings_each, readings_signed, readings_members, renamed, renamed_each, renamed_signed, renamed_members, IsNumbered, AreNumbered, AreSignedNumbered, AreMembersNumbered}
use Rattle.law_splits.proofs.Lists.{get_longer}
use Rattle.law_splits.proofs.RenamedReads.{less_or_same}

-- Variables from `width` on, of binders, take the numbers from a total on.
module _ (flat_text : FlatText) (width total : ℕ) (r : ℕ → ℕ) (outer : (v : ℕ) → width ≤ v → r v ≡ total + (v - width)) (IsFine : ℕ → Type 0) where
  abbrev pub AreFine : List Occurrence → Type 0
  AreFine xs = (x : Occurrence) → Has xs x → IsFine x.var

  -- the kinds of so many variables, under their numbers and under the others
  pub record Alike (m : ℕ) (b c : FlatVars) : Type 0 where
    pub long : length b ≡ m
    pub other_long : length c ≡ r m
    pub alike : (v : ℕ) → v < m → IsFine v → slice_get c (r v) ≡ slice_get b v

  module _ (m : ℕ) (b c : FlatVars) (l : width ≤ m) (h : Alike m b c) where
    longer : (x : FlatKind) (v : ℕ) → (v ≡ m) ⊎ (v < m) → IsFine v → slice_get (c ++ x ∷ []) (r v) ≡ slice_get (b ++ x ∷ []) v
    longer x v (inl e) f = subst (λ k. slice_get (c ++ x ∷ []) (r k) ≡ slice_get (b ++ x ∷ []) k) (sym e)
        (subst (λ k. slice_get (c ++ x ∷ []) k ≡ slice_get (b ++ x ∷ []) m) h.other_long (get_after c [] x ∙ sym (subst (λ k. slice_get (b ++ x ∷ []) k ≡ Some x) h.long (get_after b [] x))))
    longer x v (inr k) f =
        let e = h.long in
        let w = get_there b v (omega (arith, k, e)) in
        get_longer c (x ∷ []) (r v) (h.alike v k f ∙ w.1) ∙ sym (get_longer b (x ∷ []) v w.1)

    other_longer : (x : FlatKind) → length (c ++ x ∷ []) ≡ r (suc m)
    other_longer x = let a = length-append c (x ∷ []) in let e = h.other_long in let i = outer m l in let j = outer (suc m) (omega (arith, l)) in omega (arith, a, e, i, j, l)

    inside_alike : (over : Simple) → Alike (suc m) (inside b over) (inside c over)
    inside_alike over = record {
      long = let a = length-append b (kind_of over ∷ []) in let e = h.long in omega (arith, a, e);
      other_long = other_longer (kind_of over);
      alike = λ v k f. longer (kind_of over) v (less_or_same v m k (cases_Bool (nat_eq v m))) f;
    }

    same_binder : (over : Simple) → is_binder flat_text c (r m) over ≡ is_binder flat_text b m over
    same_binder over = ap (λ t. t && is_index_type flat_text over) (nat_eq-same (r m) (length c) h.other_long ∙ sym (nat_eq-same m (length b) h.long))

  left : {xs : List Occurrence} (ys : List Occurrence) → AreFine (xs ++ ys) → AreFine xs
  left ys f x h = f x (Has-left ys h)

  right : (xs : List Occurrence) {ys : List Occurrence} → AreFine (xs ++ ys) → AreFine ys
  right xs f x h = f x (Has-right xs h)

  mutual
    pub same : (e : FlatExpr) (m : ℕ) (b c : FlatVars) → width ≤ m → IsNumbered m e → AreFine (readings e) → Alike m b c → kind_in flat_text c (renamed r e) ≡ kind_in flat_text b e
    same (Number value place) m b c l i f h = refl
    same (Read' family shape indexes place) m b c l i f h = ap (element (slice_get flat_text.families family)) (same_each indexes m b c l i f h)
    same (Var var place) m b c l i f h = h.alike var i (f (record { var = var; at = place }) first)
    same (Loop value place) m b c l i f h = refl
    same (Constant list value place) m b c l i f h = refl
    same (Not' shape (more_of-FlatExpr e end_of-FlatExpr) place) m b c l i f h = ap (λ u. number_if (takes number u)) (same e m b c l i f h)
    same (And' shape parts) m b c l i f h = ap (λ us. number_if (are_numbers us)) (same_each parts m b c l i f h)
    same (Or' shape parts) m b c l i f h = ap (λ us. number_if (are_numbers us)) (same_each parts m b c l i f h)
    same (Implies' shape parts) m b c l i f h = ap (λ us. number_if (are_numbers us)) (same_each parts m b c l i f h)
    same (Iff' o (more_of-FlatExpr x end_of-FlatExpr) p (more_of-FlatExpr y end_of-FlatExpr)) m b c l i f h =
        ap (λ u. number_if (are_numbers (u ∷ kind_in flat_text c (renamed r y) ∷ []))) (same x m b c l i.0 (left (readings y) f) h)
        ∙ ap (λ u. number_if (are_numbers (kind_in flat_text b x ∷ u ∷ []))) (same y m b c l i.1 (right (readings x) f) h)
    same (Compare' op o (more_of-FlatExpr x end_of-FlatExpr) p (more_of-FlatExpr y end_of-FlatExpr)) m b c l i f h =
        ap (λ u. number_if (compares op (common (u ∷ kind_in flat_text c (renamed r y) ∷ [])))) (same x m b c l i.0 (left (readings y) f) h)
        ∙ ap (λ u. number_if (compares op (common (kind_in flat_text b x ∷ u ∷ [])))) (same y m b c l i.1 (right (readings x) f) h)
    same (Within' o (more_of-FlatExpr x end_of-FlatExpr) p (more_of-FlatExpr set end_of-FlatExpr)) m b c l i f h =
        ap (λ u. number_if (is_some (common (u ∷ looked_through flat_text c (renamed r set))))) (same x m b c l i.0 (left (readings set) f) h)
        ∙ ap (λ us. number_if (is_some (common (kind_in flat_text b x ∷ us)))) (same_listed set m b c l i.1 (right (readings x) f) h)
    same (Sum' o (more_of-FlatExpr x end_of-FlatExpr) shape more) m b c l i f h =
        ap (λ u. number_if (are_numbers (u ∷ summands flat_text c (renamed_signed r more)))) (same x m b c l i.0 (left (readings_signed more) f) h)
        ∙ ap (λ us. number_if (are_numbers (kind_in flat_text b x ∷ us))) (same_summands more m b c l i.1 (right (readings x) f) h)
    same (Modulo' shape (more_of-FlatExpr e end_of-FlatExpr) by place) m b c l i f h = ap (λ u. number_if (takes number u && nat_lt 0 by)) (same e m b c l i f h)
    same (Choose' t (more_of-FlatExpr test end_of-FlatExpr) o (more_of-FlatExpr x end_of-FlatExpr) p (more_of-FlatExpr y end_of-FlatExpr)) m b c l i f h =
        ap (λ u. chosen u (kind_in flat_text c (renamed r x)) (kind_in flat_text c (renamed r y))) (same test m b c l i.0 (left (readings x) (left (readings y) f)) h)
        ∙ (ap (λ u. chosen (kind_in flat_text b test) u (kind_in flat_text c (renamed r y))) (same x m b c l i.1 (right (readings test) (left (readings y) f)) h)
        ∙ ap (λ u. chosen (kind_in flat_text b test) (kind_in flat_text b x) u) (same y m b c l i.2 (right (readings test ++ readings x) f) h))
    same (All' shape (more_of-FlatExpr body end_of-FlatExpr) var over place) m b c l i f h =
        subst (λ k. kind_in flat_text c (renamed r (All' shape (more_of-FlatExpr body end_of-FlatExpr) k over place)) ≡ kind_in flat_text b (All' shape (more_of-FlatExpr body end_of-FlatExpr) k over place)) (sym i.0)
        (ap (λ t. number_if (t && takes number (kind_in flat_text (inside c over) (renamed r body)))) (same_binder m b c l h over)
        ∙ ap (λ u. number_if (is_binder flat_text b m over && takes number u)) (same body (suc m) (inside b over) (inside c over) (omega (arith, l)) i.1 f (inside_alike m b c l h over)))
    same (Any' shape (more_of-FlatExpr body end_of-FlatExpr) var over place) m b c l i f h =
        subst (λ k. kind_in flat_text c (renamed r (Any' shape (more_of-FlatExpr body end_of-FlatExpr) k over place)) ≡ kind_in flat_text b (Any' shape (more_of-FlatExpr body end_of-FlatExpr) k over place)) (sym i.0)
        (ap (λ t. number_if (t && takes number (kind_in flat_text (inside c over) (renamed r body)))) (same_binder m b c l h over)
        ∙ ap (λ u. number_if (is_binder flat_text b m over && takes number u)) (same body (suc m) (inside b over) (inside c over) (omega (arith, l)) i.1 f (inside_alike m b c l h over)))
    same (List' shape members place) m b c l i f h = refl
    same (Each' var over held place) m b c l i f h = refl

    same_each : {k : _} (row : Row_of-FlatExpr k) (m : ℕ) (b c : FlatVars) → width ≤ m → AreNumbered m row → AreFine (readings_each row) → Alike m b c → kinds_in flat_text c (renamed_each r row) ≡ kinds_in flat_text b row
    same_each end_of-FlatExpr m b c l i f h = refl
    same_each (more_of-FlatExpr e others) m b c l i f h =
        ap (λ u. u ∷ kinds_in flat_text c (renamed_each r others)) (same e m b c l i.0 (left (readings_each others) f) h) ∙ ap (λ us. kind_in flat_text b e ∷ us) (same_each others m b c l i.1 (right (readings e) f) h)

    same_summands : {k : _} (row : Row_of-FlatSigned k) (m : ℕ) (b c : FlatVars) → width ≤ m → AreSignedNumbered m row → AreFine (readings_signed row) → Alike m b c → summands flat_text c (renamed_signed r row) ≡ summands flat_text b row
    same_summands end_of-FlatSigned m b c l i f h = refl
    same_summands (more_of-FlatSigned minus e others) m b c l i f h =
        ap (λ u. u ∷ summands flat_text c (renamed_signed r others)) (same e m b c l i.0 (left (readings_signed others) f) h) ∙ ap (λ us. kind_in flat_text b e ∷ us) (same_summands others m b c l i.1 (right (readings e) f) h)

    same_listed : (e : FlatExpr) (m : ℕ) (b c : FlatVars) → width ≤ m → IsNumbered m e → AreFine (readings e) → Alike m b c → looked_through flat_text c (renamed r e) ≡ looked_through flat_text b e
    same_listed (List' shape members place) m b c l i f h = same_members members m b c l i f h
    same_listed (Number value place) m b c l i f h = refl
    same_listed (Read' family shape indexes place) m b c l i f h = refl
    same_listed (Var var place) m b c l i f h = refl
    same_listed (Loop value place) m b c l i f h = refl
    same_listed (Constant list value place) m b c l i f h = refl
    same_listed (Not' shape (more_of-FlatExpr e end_of-FlatExpr) place) m b c l i f h = refl
    same_listed (And' shape parts) m b c l i f h = refl
    same_listed (Or' shape parts) m b c l i f h = refl
    same_listed (Implies' shape parts) m b c l i f h = refl
    same_listed (Iff' o (more_of-FlatExpr x end_of-FlatExpr) p (more_of-FlatExpr y end_of-FlatExpr)) m b c l i f h = refl
    same_listed (Compare' op o (more_of-FlatExpr x end_of-FlatExpr) p (more_of-FlatExpr y end_of-FlatExpr)) m b c l i f h = refl
    same_listed (Within' o (more_of-FlatExpr x end_of-FlatExpr) p (more_of-FlatExpr set end_of-FlatExpr)) m b c l i f h = refl
    same_listed (Sum' o (more_of-FlatExpr x end_of-FlatExpr) shape more) m b c l i f h = refl
    same_listed (Modulo' shape (more_of-FlatExpr e end_of-FlatExpr) by place) m b c l i f h = refl
    same_listed (Choose' t (more_of-FlatExpr test end_of-FlatExpr) o (more_of-FlatExpr x end_of-FlatExpr) p (more_of-FlatExpr y end_of-FlatExpr)) m b c l i f h = refl
    same_listed (All' shape (more_of-FlatExpr body end_of-FlatExpr) var over place) m b c l i f h = refl
    same_listed (Any' shape (more_of-FlatExpr body end_of-FlatExpr) var over place) m b c l i f h = refl
    same_listed (Each' var over held place) m b c l i f h = refl

    same_members : {k : _} (row : Row_of-FlatMember k) (m : ℕ) (b c : FlatVars) → width ≤ m → AreMembersNumbered m row → AreFine (readings_members row) → Alike m b c →
        members_in flat_text c (renamed_members r row) ≡ members_in flat_text b row
    same_members end_of-FlatMember m b c l i f h = refl
    same_members (more_of-FlatMember (One e) others) m b c l i f h =
        ap (λ u. u ∷ members_in flat_text c (renamed_members r others)) (same e m b c l i.0 (left (readings_members others) f) h) ∙ ap (λ us. kind_in flat_text b e ∷ us) (same_members others m b c l i.1 (right (readings e) f) h)
    same_members (more_of-FlatMember (SpanOf span place) others) m b c l i f h = ap (λ us. number_if (nat_le span.low span.high) ∷ us) (same_members others m b c l i f h)

  mutual
    pub same_orders : (e : FlatExpr) (m : ℕ) (b c : FlatVars) → width ≤ m → IsNumbered m e → AreFine (readings e) → Alike m b c → keeps_orders flat_text c (renamed r e) ≡ keeps_orders flat_text b e
    same_orders (Number value place) m b c l i f h = refl
    same_orders (Read' family shape indexes place) m b c l i f h = orders_each indexes m b c l i f h
    same_orders (Var var place) m b c l i f h = refl
    same_orders (Loop value place) m b c l i f h = refl
    same_orders (Constant list value place) m b c l i f h = refl
    same_orders (Not' shape (more_of-FlatExpr e end_of-FlatExpr) place) m b c l i f h = same_orders e m b c l i f h
    same_orders (And' shape parts) m b c l i f h = orders_each parts m b c l i f h
    same_orders (Or' shape parts) m b c l i f h = orders_each parts m b c l i f h
    same_orders (Implies' shape parts) m b c l i f h = orders_each parts m b c l i f h
    same_orders (Iff' o (more_of-FlatExpr x end_of-FlatExpr) p (more_of-FlatExpr y end_of-FlatExpr)) m b c l i f h =
        ap (λ t. t && keeps_orders flat_text c (renamed r y)) (same_orders x m b c l i.0 (left (readings y) f) h) ∙ ap (λ t. keeps_orders flat_text b x && t) (same_orders y m b c l i.1 (right (readings x) f) h)
    same_orders (Compare' op o (more_of-FlatExpr x end_of-FlatExpr) p (more_of-FlatExpr y end_of-FlatExpr)) m b c l i f h =
        ap (λ u. (not (is_order op) || (has_order flat_text u && has_order flat_text (kind_in flat_text c (renamed r y)))) && (keeps_orders flat_text c (renamed r x) && keeps_orders flat_text c (renamed r y))) (same x m b c l i.0 (left (readings y) f) h)
        ∙ (ap (λ u. (not (is_order op) || (has_order flat_text (kind_in flat_text b x) && has_order flat_text u)) && (keeps_orders flat_text c (renamed r x) && keeps_orders flat_text c (renamed r y))) (same y m b c l i.1 (right (readings x) f) h)
        ∙ (ap (λ t. (not (is_order op) || (has_order flat_text (kind_in flat_text b x) && has_order flat_text (kind_in flat_text b y))) && (t && keeps_orders flat_text c (renamed r y))) (same_orders x m b c l i.0 (left (readings y) f) h)
        ∙ ap (λ t. (not (is_order op) || (has_order flat_text (kind_in flat_text b x) && has_order flat_text (kind_in flat_text b y))) && (keeps_orders flat_text b x && t)) (same_orders y m b c l i.1 (right (readings x) f) h)))
    same_orders (Within' o (more_of-FlatExpr x end_of-FlatExpr) p (more_of-FlatExpr set end_of-FlatExpr)) m b c l i f h =
        ap (λ t. t && keeps_orders flat_text c (renamed r set)) (same_orders x m b c l i.0 (left (readings set) f) h) ∙ ap (λ t. keeps_orders flat_text b x && t) (same_orders set m b c l i.1 (right (readings x) f) h)
    same_orders (Sum' o (more_of-FlatExpr x end_of-FlatExpr) shape more) m b c l i f h =
        ap (λ t. t && signed_keep_orders flat_text c (renamed_signed r more)) (same_orders x m b c l i.0 (left (readings_signed more) f) h)
        ∙ ap (λ t. keeps_orders flat_text b x && t) (orders_signed more m b c l i.1 (right (readings x) f) h)
    same_orders (Modulo' shape (more_of-FlatExpr e end_of-FlatExpr) by place) m b c l i f h = same_orders e m b c l i f h
    same_orders (Choose' t (more_of-FlatExpr test end_of-FlatExpr) o (more_of-FlatExpr x end_of-FlatExpr) p (more_of-FlatExpr y end_of-FlatExpr)) m b c l i f h =
        ap (λ u. u && (keeps_orders flat_text c (renamed r x) && keeps_orders flat_text c (renamed r y))) (same_orders test m b c l i.0 (left (readings x) (left (readings y) f)) h)
        ∙ (ap (λ u. keeps_orders flat_text b test && (u && keeps_orders flat_text c (renamed r y))) (same_orders x m b c l i.1 (right (readings test) (left (readings y) f)) h)
        ∙ ap (λ u. keeps_orders flat_text b test && (keeps_orders flat_text b x && u)) (same_orders y m b c l i.2 (right (readings test ++ readings x) f) h))
    same_orders (All' shape (more_of-FlatExpr body end_of-FlatExpr) var over place) m b c l i f h = same_orders body (suc m) (inside b over) (inside c over) (omega (arith, l)) i.1 f (inside_alike m b c l h over)
    same_orders (Any' shape (more_of-FlatExpr body end_of-FlatExpr) var over place) m b c l i f h = same_orders body (suc m) (inside b over) (inside c over) (omega (arith, l)) i.1 f (inside_alike m b c l h over)
    same_orders (List' shape members place) m b c l i f h = orders_members members m b c l i f h
    same_orders (Each' var over None' place) m b c l i f h = refl
    same_orders (Each' var over (Some' shape (more_of-FlatExpr test end_of-FlatExpr)) place) m b c l i f h = same_orders test (suc m) (inside b over) (inside c over) (omega (arith, l)) i.1 f (inside_alike m b c l h over)

    orders_each : {k : _} (row : Row_of-FlatExpr k) (m : ℕ) (b c : FlatVars) → width ≤ m → AreNumbered m row → AreFine (readings_each row) → Alike m b c → all_keep_orders flat_text c (renamed_each r row) ≡ all_keep_orders flat_text b row
    orders_each end_of-FlatExpr m b c l i f h = refl
    orders_each (more_of-FlatExpr e others) m b c l i f h =
        ap (λ t. t && all_keep_orders flat_text c (renamed_each r others)) (same_orders e m b c l i.0 (left (readings_each others) f) h) ∙ ap (λ t. keeps_orders flat_text b e && t) (orders_each others m b c l i.1 (right (readings e) f) h)

    orders_signed : {k : _} (row : Row_of-FlatSigned k) (m : ℕ) (b c : FlatVars) → width ≤ m → AreSignedNumbered m row → AreFine (readings_signed row) → Alike m b c →
        signed_keep_orders flat_text c (renamed_signed r row) ≡ signed_keep_orders flat_text b row
    orders_signed end_of-FlatSigned m b c l i f h = refl
    orders_signed (more_of-FlatSigned minus e others) m b c l i f h =
        ap (λ t. t && signed_keep_orders flat_text c (renamed_signed r others)) (same_orders e m b c l i.0 (left (readings_signed others) f) h) ∙ ap (λ t. keeps_orders flat_text b e && t) (orders_signed others m b c l i.1 (right (readings e) f) h)

    orders_members : {k : _} (row : Row_of-FlatMember k) (m : ℕ) (b c : FlatVars) → width ≤ m → AreMembersNumbered m row → AreFine (readings_members row) → Alike m b c →
        members_keep_orders flat_text c (renamed_members r row) ≡ members_keep_orders flat_text b row
    orders_members end_of-FlatMember m b c l i f h = refl
    orders_members (more_of-FlatMember (One e) others) m b c l i f h =
        ap (λ t. t && members_keep_orders flat_text c (renamed_members r others)) (same_orders e m b c l i.0 (left (readings_members others) f) h) ∙ ap (λ t. keeps_orders flat_text b e && t) (orders_members others m b c l i.1 (right (readings e) f) h)
    orders_members (more_of-FlatMember (SpanOf span place) others) m b c l i f h = orders_members others m b c l i f h
