-- An expression whose variables have other numbers has the same outcome where these numbers have the same values.
use Rattle.std.proofs.Common.{◌≡◌, ℕ, zero, suc, ◌+◌, ◌-◌, ◌<◌, ◌≤◌, List, [], ◌∷◌, ◌++◌, map, take, length, refl, sym, ap, subst, ◌∙◌, ◌⊎◌, arith, inl, inr, Some, None, nat_eq}
use Rattle.std.specs.List.{slice_get}
use Rattle.std.proofs.lemmas.List.{length-append}
use Rattle.std.proofs.lemmas.Bool.{cases_Bool}
use Rattle.law_lists.proofs.Lists.{map_agree}
use Rattle.law_lists.proofs.Places.{get_there}
use Rattle.smv_core.specs.Values.{Value, number, Outcome, truth, bit, compare, equal, add, modulo, numbers_from, not_of, iff_of, conjunction, disjunction, implication}
use Rattle.smv_core.specs.Outcome.{branch}
use Rattle.smv_core.specs.FlatMeaning.{Numbered, FlatState, bind, values_in, flat_element_at, flat_outcome, flat_outcomes, flat_sum, flat_listed, flat_members}
use Rattle.smv_core.specs.declared.flat.FlatMember.{One, Span as SpanOf}
use Rattle.smv_core.specs.declared.flat.FlatExpr.{FlatExpr, Number, Read', Var, Loop, Constant, Not', And', Or', Implies', Iff', Compare', Within', Sum', Modulo', Choose', All', Any', List', Each', Row_of-FlatExpr, end_of-FlatExpr, more_of-FlatExpr, Row_of-FlatMember, end_of-FlatMember, more_of-FlatMember, Row_of-FlatSigned, end_of-FlatSigned, more_of-FlatSigned}
use Rattle.law_obligations.specs.Sets.{Has, first}
use Rattle.law_obligations.proofs.Members.{Has-left, Has-right}
use Rattle.law_obligations.proofs.OneOfEach.{get_after}
use Rattle.law_splits.specs.Variables.{Occurrence, readings, readings_each, readings_signed, readings_members, renamed, renamed_each, renamed_signed, renamed_members, IsNumbered, AreNumbered, AreSignedNumbered, AreMembersNumbered}
use Rattle.law_splits.proofs.Lists.{get_longer}
use Rattle.law_splits.proofs.RenamedReads.{less_or_same}

take_all : {X : Type 0} (xs : List X) (k : ℕ) → length xs ≡ k → take k xs ≡ xs
take_all [] zero e = refl
take_all [] (suc k) e = refl
take_all (x ∷ xs) zero e = absurd (omega (arith, e))
take_all (x ∷ xs) (suc k) e = ap (λ ys. x ∷ ys) (take_all xs k (omega (arith, e)))

bind_is : (b : List Value) (m : ℕ) (v : Value) → length b ≡ m → bind b m v ≡ b ++ v ∷ []
bind_is b m v e = ap (λ ys. ys ++ v ∷ []) (take_all b m e)

-- Variables from `width` on, of binders, take the numbers from a total on.
module _ (n : Numbered) (s : FlatState) (width total : ℕ) (r : ℕ → ℕ) (inner : (v : ℕ) → width ≤ v → r v ≡ total + (v - width)) (IsFine : ℕ → Type 0) where
  abbrev pub AreFine : List Occurrence → Type 0
  AreFine xs = (x : Occurrence) → Has xs x → IsFine x.var

  -- the values of so many variables, under their numbers and under the others
  pub record Alike (m : ℕ) (b c : List Value) : Type 0 where
    pub long : length b ≡ m
    pub other_long : length c ≡ r m
    pub alike : (v : ℕ) → v < m → IsFine v → slice_get c (r v) ≡ slice_get b v

  module _ (m : ℕ) (b c : List Value) (l : width ≤ m) (h : Alike m b c) (x : Value) where
    longer : (v : ℕ) → (v ≡ m) ⊎ (v < m) → IsFine v → slice_get (c ++ x ∷ []) (r v) ≡ slice_get (b ++ x ∷ []) v
    longer v (inl e) f = subst (λ k. slice_get (c ++ x ∷ []) (r k) ≡ slice_get (b ++ x ∷ []) k) (sym e)
        (subst (λ k. slice_get (c ++ x ∷ []) k ≡ slice_get (b ++ x ∷ []) m) h.other_long (get_after c [] x ∙ sym (subst (λ k. slice_get (b ++ x ∷ []) k ≡ Some x) h.long (get_after b [] x))))
    longer v (inr k) f =
        let e = h.long in
        let w = get_there b v (omega (arith, k, e)) in
        get_longer c (x ∷ []) (r v) (h.alike v k f ∙ w.1) ∙ sym (get_longer b (x ∷ []) v w.1)

    other_longer : length (c ++ x ∷ []) ≡ r (suc m)
    other_longer = let a = length-append c (x ∷ []) in let e = h.other_long in let i = inner m l in let j = inner (suc m) (omega (arith, l)) in omega (arith, a, e, i, j, l)

    bound_alike : Alike (suc m) (bind b m x) (bind c (r m) x)
    bound_alike = subst (λ b. Alike (suc m) b (bind c (r m) x)) (sym (bind_is b m x h.long)) (subst (Alike (suc m) (b ++ x ∷ [])) (sym (bind_is c (r m) x h.other_long)) (record {
      long = let a = length-append b (x ∷ []) in let e = h.long in omega (arith, a, e);
      other_long = other_longer;
      alike = λ v k f. longer v (less_or_same v m k (cases_Bool (nat_eq v m))) f;
    }))

  left : {xs : List Occurrence} (ys : List Occurrence) → AreFine (xs ++ ys) → AreFine xs
  left ys f x h = f x (Has-left ys h)

  right : (xs : List Occurrence) {ys : List Occurrence} → AreFine (xs ++ ys) → AreFine ys
  right xs f x h = f x (Has-right xs h)

  mutual
    pub same : (e : FlatExpr) (m : ℕ) (b c : List Value) → width ≤ m → IsNumbered m e → AreFine (readings e) → Alike m b c → flat_outcome n s (renamed r e) c ≡ flat_outcome n s e b
    same (Number value place) m b c l i f h = refl
    same (Read' family shape indexes place) m b c l i f h = ap (flat_element_at n s family (slice_get n.families family)) (same_each indexes m b c l i f h)
    same (Var var place) m b c l i f h = h.alike var i (f (record { var = var; at = place }) first)
    same (Loop value place) m b c l i f h = refl
    same (Constant list value place) m b c l i f h = refl
    same (Not' shape (more_of-FlatExpr e end_of-FlatExpr) place) m b c l i f h = ap (λ u. bit (not_of (truth u))) (same e m b c l i f h)
    same (And' shape parts) m b c l i f h = ap (λ us. bit (conjunction (map truth us))) (same_each parts m b c l i f h)
    same (Or' shape parts) m b c l i f h = ap (λ us. bit (disjunction (map truth us))) (same_each parts m b c l i f h)
    same (Implies' shape parts) m b c l i f h = ap (λ us. bit (implication (map truth us))) (same_each parts m b c l i f h)
    same (Iff' o (more_of-FlatExpr x end_of-FlatExpr) p (more_of-FlatExpr y end_of-FlatExpr)) m b c l i f h =
        ap (λ u. bit (iff_of (truth u) (truth (flat_outcome n s (renamed r y) c)))) (same x m b c l i.0 (left (readings y) f) h)
        ∙ ap (λ u. bit (iff_of (truth (flat_outcome n s x b)) (truth u))) (same y m b c l i.1 (right (readings x) f) h)
    same (Compare' op o (more_of-FlatExpr x end_of-FlatExpr) p (more_of-FlatExpr y end_of-FlatExpr)) m b c l i f h =
        ap (λ u. bit (compare op u (flat_outcome n s (renamed r y) c))) (same x m b c l i.0 (left (readings y) f) h)
        ∙ ap (λ u. bit (compare op (flat_outcome n s x b) u)) (same y m b c l i.1 (right (readings x) f) h)
    same (Within' o (more_of-FlatExpr x end_of-FlatExpr) p (more_of-FlatExpr set end_of-FlatExpr)) m b c l i f h =
        ap (λ u. bit (disjunction (map (equal u) (flat_listed n s (renamed r set) c)))) (same x m b c l i.0 (left (readings set) f) h)
        ∙ ap (λ us. bit (disjunction (map (equal (flat_outcome n s x b)) us))) (same_listed set m b c l i.1 (right (readings x) f) h)
    same (Sum' o (more_of-FlatExpr x end_of-FlatExpr) shape more) m b c l i f h =
        ap (λ u. flat_sum n s (renamed_signed r more) u c) (same x m b c l i.0 (left (readings_signed more) f) h) ∙ same_sum more (flat_outcome n s x b) m b c l i.1 (right (readings x) f) h
    same (Modulo' shape (more_of-FlatExpr e end_of-FlatExpr) by place) m b c l i f h = ap (λ u. modulo u by) (same e m b c l i f h)
    same (Choose' t (more_of-FlatExpr test end_of-FlatExpr) o (more_of-FlatExpr x end_of-FlatExpr) p (more_of-FlatExpr y end_of-FlatExpr)) m b c l i f h =
        ap (λ u. branch None (truth u) (flat_outcome n s (renamed r x) c) (flat_outcome n s (renamed r y) c)) (same test m b c l i.0 (left (readings x) (left (readings y) f)) h)
        ∙ (ap (λ u. branch None (truth (flat_outcome n s test b)) u (flat_outcome n s (renamed r y) c)) (same x m b c l i.1 (right (readings test) (left (readings y) f)) h)
        ∙ ap (λ u. branch None (truth (flat_outcome n s test b)) (flat_outcome n s x b) u) (same y m b c l i.2 (right (readings test ++ readings x) f) h))
    same (All' shape (more_of-FlatExpr body end_of-FlatExpr) var over place) m b c l i f h =
        subst (λ k. flat_outcome n s (renamed r (All' shape (more_of-FlatExpr body end_of-FlatExpr) k over place)) c ≡ flat_outcome n s (All' shape (more_of-FlatExpr body end_of-FlatExpr) k over place) b) (sym i.0)
        (ap (λ ts. bit (conjunction ts)) (map_agree (λ v. truth (flat_outcome n s (renamed r body) (bind c (r m) v))) (λ v. truth (flat_outcome n s body (bind b m v)))
        (λ v. ap truth (same body (suc m) (bind b m v) (bind c (r m) v) (omega (arith, l)) i.1 f (bound_alike m b c l h v))) (values_in n over)))
    same (Any' shape (more_of-FlatExpr body end_of-FlatExpr) var over place) m b c l i f h =
        subst (λ k. flat_outcome n s (renamed r (Any' shape (more_of-FlatExpr body end_of-FlatExpr) k over place)) c ≡ flat_outcome n s (Any' shape (more_of-FlatExpr body end_of-FlatExpr) k over place) b) (sym i.0)
        (ap (λ ts. bit (disjunction ts)) (map_agree (λ v. truth (flat_outcome n s (renamed r body) (bind c (r m) v))) (λ v. truth (flat_outcome n s body (bind b m v)))
        (λ v. ap truth (same body (suc m) (bind b m v) (bind c (r m) v) (omega (arith, l)) i.1 f (bound_alike m b c l h v))) (values_in n over)))
    same (List' shape members place) m b c l i f h = refl
    same (Each' var over held place) m b c l i f h = refl

    same_each : {k : _} (row : Row_of-FlatExpr k) (m : ℕ) (b c : List Value) → width ≤ m → AreNumbered m row → AreFine (readings_each row) → Alike m b c → flat_outcomes n s (renamed_each r row) c ≡ flat_outcomes n s row b
    same_each end_of-FlatExpr m b c l i f h = refl
    same_each (more_of-FlatExpr e others) m b c l i f h =
        ap (λ u. u ∷ flat_outcomes n s (renamed_each r others) c) (same e m b c l i.0 (left (readings_each others) f) h) ∙ ap (λ us. flat_outcome n s e b ∷ us) (same_each others m b c l i.1 (right (readings e) f) h)

    same_sum : {k : _} (row : Row_of-FlatSigned k) (u : Outcome) (m : ℕ) (b c : List Value) → width ≤ m → AreSignedNumbered m row → AreFine (readings_signed row) → Alike m b c →
        flat_sum n s (renamed_signed r row) u c ≡ flat_sum n s row u b
    same_sum end_of-FlatSigned u m b c l i f h = refl
    same_sum (more_of-FlatSigned minus e others) u m b c l i f h =
        ap (λ v. flat_sum n s (renamed_signed r others) (add minus u v) c) (same e m b c l i.0 (left (readings_signed others) f) h)
        ∙ same_sum others (add minus u (flat_outcome n s e b)) m b c l i.1 (right (readings e) f) h

    same_listed : (e : FlatExpr) (m : ℕ) (b c : List Value) → width ≤ m → IsNumbered m e → AreFine (readings e) → Alike m b c → flat_listed n s (renamed r e) c ≡ flat_listed n s e b
    same_listed (List' shape members place) m b c l i f h = same_members members m b c l i f h
    same_listed (Number value place) m b c l i f h = refl
    same_listed (Read' family shape indexes place) m b c l i f h = refl
    same_listed (Var var place) m b c l i f h = refl
    same_listed (Loop value place) m b c l i f h = refl
    same_listed (Constant list value place) m b c l i f h = refl
    same_listed (Not' shape (more_of-FlatExpr e end_of-FlatExpr) place) m b c l i f h = refl
    same_listed (And' shape parts) m b c l i f h = refl
    same_listed (Or' shape parts) m b c l i f h = refl
    same_listed (Implies' shape parts) m b c l i f h = refl
    same_listed (Iff' o (more_of-FlatExpr x end_of-FlatExpr) p (more_of-FlatExpr y end_of-FlatExpr)) m b c l i f h = refl
    same_listed (Compare' op o (more_of-FlatExpr x end_of-FlatExpr) p (more_of-FlatExpr y end_of-FlatExpr)) m b c l i f h = refl
    same_listed (Within' o (more_of-FlatExpr x end_of-FlatExpr) p (more_of-FlatExpr set end_of-FlatExpr)) m b c l i f h = refl
    same_listed (Sum' o (more_of-FlatExpr x end_of-FlatExpr) shape more) m b c l i f h = refl
    same_listed (Modulo' shape (more_of-FlatExpr e end_of-FlatExpr) by place) m b c l i f h = refl
    same_listed (Choose' t (more_of-FlatExpr test end_of-FlatExpr) o (more_of-FlatExpr x end_of-FlatExpr) p (more_of-FlatExpr y end_of-FlatExpr)) m b c l i f h = refl
    same_listed (All' shape (more_of-FlatExpr body end_of-FlatExpr) var over place) m b c l i f h = refl
    same_listed (Any' shape (more_of-FlatExpr body end_of-FlatExpr) var over place) m b c l i f h = refl
    same_listed (Each' var over held place) m b c l i f h = refl

    same_members : {k : _} (row : Row_of-FlatMember k) (m : ℕ) (b c : List Value) → width ≤ m → AreMembersNumbered m row → AreFine (readings_members row) → Alike m b c →
        flat_members n s (renamed_members r row) c ≡ flat_members n s row b
    same_members end_of-FlatMember m b c l i f h = refl
    same_members (more_of-FlatMember (One e) others) m b c l i f h =
        ap (λ u. u ∷ flat_members n s (renamed_members r others) c) (same e m b c l i.0 (left (readings_members others) f) h) ∙ ap (λ us. flat_outcome n s e b ∷ us) (same_members others m b c l i.1 (right (readings e) f) h)
    same_members (more_of-FlatMember (SpanOf span place) others) m b c l i f h =
        ap (λ us. map (λ k. Some (number k)) (numbers_from span.low (span.high + 1 - span.low)) ++ us) (same_members others m b c l i f h)
