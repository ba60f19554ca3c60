-- An outcome depends on no variable that its expression does not read.
use Rattle.std.proofs.Common.{◌≡◌, ℕ, zero, suc, ◌+◌, ◌-◌, ◌<◌, List, [], ◌∷◌, ◌++◌, map, length, Bool, true, ◌&&◌, refl, ap, ◌∙◌, arith, inl, inr, Some, None, nat_eq, nat_lt}
use Rattle.std.specs.List.{slice_get}
use Rattle.std.proofs.lemmas.Bool.{or_cases}
use Rattle.law_lists.proofs.Lists.{map_agree}
use Rattle.law_lists.proofs.Booleans.{right_of}
use Rattle.smv_core.specs.Values.{Value, number, Outcome, truth, bit, compare, equal, add, modulo, numbers_from, not_of, iff_of, conjunction, disjunction, implication}
use Rattle.smv_core.specs.Outcome.{branch}
use Rattle.smv_core.specs.FlatMeaning.{Numbered, FlatState, bind, values_in, flat_element_at, flat_outcome, flat_outcomes, flat_sum, flat_listed, flat_members}
use Rattle.smv_core.specs.declared.flat.FlatMember.{One, Span as SpanOf}
use Rattle.smv_core.specs.declared.flat.FlatExpr.{FlatExpr, Number, Read', Var, Loop, Constant, Not', And', Or', Implies', Iff', Compare', Within', Sum', Modulo', Choose', All', Any', List', Each', Row_of-FlatExpr, end_of-FlatExpr, more_of-FlatExpr, Row_of-FlatMember, end_of-FlatMember, more_of-FlatMember, Row_of-FlatSigned, end_of-FlatSigned, more_of-FlatSigned}
use Rattle.law_obligations.specs.Scopes.{under, ReadsOnly, ReadOnly, ReadSigned, ReadMembers}

-- two lists of equally many values, with the same values at these variables
pub record Agree (scope : ℕ → Bool) (b c : List Value) : Type 0 where
  pub long : length b ≡ length c
  pub alike : (k : ℕ) → scope k ≡ true → slice_get b k ≡ slice_get c k

bind_alike : (b c : List Value) (var : ℕ) (v : Value) (k : ℕ) → length b ≡ length c → (k < var → slice_get b k ≡ slice_get c k) → slice_get (bind b var v) k ≡ slice_get (bind c var v) k
bind_alike [] [] zero v k e h = refl
bind_alike [] [] (suc var) v k e h = refl
bind_alike [] (y ∷ c) var v k e h = absurd (omega arith)
bind_alike (x ∷ b) [] var v k e h = absurd (omega arith)
bind_alike (x ∷ b) (y ∷ c) zero v k e h = refl
bind_alike (x ∷ b) (y ∷ c) (suc var) v zero e h = h (omega arith)
bind_alike (x ∷ b) (y ∷ c) (suc var) v (suc k) e h = bind_alike b c var v k (omega arith) (λ l. h (omega arith))

bind_long : (b c : List Value) (var : ℕ) (v : Value) → length b ≡ length c → length (bind b var v) ≡ length (bind c var v)
bind_long [] [] zero v e = refl
bind_long [] [] (suc var) v e = refl
bind_long [] (y ∷ c) var v e = absurd (omega arith)
bind_long (x ∷ b) [] var v e = absurd (omega arith)
bind_long (x ∷ b) (y ∷ c) zero v e = refl
bind_long (x ∷ b) (y ∷ c) (suc var) v e = ap suc (bind_long b c var v (omega arith))

not_itself : (k var : ℕ) → nat_eq k var ≡ true → k < var → ⊥
not_itself k var e l = grind arith

in_scope : (scope : ℕ → Bool) (var k : ℕ) → under var scope k ≡ true → k < var → scope k ≡ true
in_scope scope var k h l = elim (or_cases (nat_eq k var) (nat_lt k var && scope k) h) [ inl e ↦ absurd (not_itself k var e l) | inr e ↦ right_of (nat_lt k var) (scope k) e ]

agree_under : (scope : ℕ → Bool) (var : ℕ) (v : Value) (b c : List Value) → Agree scope b c → Agree (under var scope) (bind b var v) (bind c var v)
agree_under scope var v b c h = record {
  long = bind_long b c var v h.long;
  alike = λ k is. bind_alike b c var v k h.long (λ l. h.alike k (in_scope scope var k is l));
}

module _ (n : Numbered) (s : FlatState) where
  mutual
    pub outcome_alike : (e : FlatExpr) (scope : ℕ → Bool) (b c : List Value) → Agree scope b c → ReadsOnly scope e → flat_outcome n s e b ≡ flat_outcome n s e c
    outcome_alike (Number value place) scope b c h r = refl
    outcome_alike (Read' family shape indexes place) scope b c h r = ap (flat_element_at n s family (slice_get n.families family)) (outcomes_alike indexes scope b c h r)
    outcome_alike (Var var place) scope b c h r = h.alike var r
    outcome_alike (Loop value place) scope b c h r = refl
    outcome_alike (Constant list value place) scope b c h r = refl
    outcome_alike (Not' shape (more_of-FlatExpr e end_of-FlatExpr) place) scope b c h r = ap (λ u. bit (not_of (truth u))) (outcome_alike e scope b c h r)
    outcome_alike (And' shape parts) scope b c h r = ap (λ us. bit (conjunction (map truth us))) (outcomes_alike parts scope b c h r)
    outcome_alike (Or' shape parts) scope b c h r = ap (λ us. bit (disjunction (map truth us))) (outcomes_alike parts scope b c h r)
    outcome_alike (Implies' shape parts) scope b c h r = ap (λ us. bit (implication (map truth us))) (outcomes_alike parts scope b c h r)
    outcome_alike (Iff' l (more_of-FlatExpr left end_of-FlatExpr) r' (more_of-FlatExpr right end_of-FlatExpr)) scope b c h r =
        ap (λ u. bit (iff_of (truth u) (truth (flat_outcome n s right b)))) (outcome_alike left scope b c h r.0) ∙ ap (λ u. bit (iff_of (truth (flat_outcome n s left c)) (truth u))) (outcome_alike right scope b c h r.1)
    outcome_alike (Compare' op l (more_of-FlatExpr left end_of-FlatExpr) r' (more_of-FlatExpr right end_of-FlatExpr)) scope b c h r =
        ap (λ u. bit (compare op u (flat_outcome n s right b))) (outcome_alike left scope b c h r.0) ∙ ap (λ u. bit (compare op (flat_outcome n s left c) u)) (outcome_alike right scope b c h r.1)
    outcome_alike (Within' l (more_of-FlatExpr left end_of-FlatExpr) r' (more_of-FlatExpr set end_of-FlatExpr)) scope b c h r =
        ap (λ u. bit (disjunction (map (equal u) (flat_listed n s set b)))) (outcome_alike left scope b c h r.0)
        ∙ ap (λ us. bit (disjunction (map (equal (flat_outcome n s left c)) us))) (listed_alike set scope b c h r.1)
    outcome_alike (Sum' f (more_of-FlatExpr head end_of-FlatExpr) shape more) scope b c h r =
        ap (λ u. flat_sum n s more u b) (outcome_alike head scope b c h r.0) ∙ sum_alike more (flat_outcome n s head c) scope b c h r.1
    outcome_alike (Modulo' shape (more_of-FlatExpr e end_of-FlatExpr) by place) scope b c h r = ap (λ u. modulo u by) (outcome_alike e scope b c h r)
    outcome_alike (Choose' t (more_of-FlatExpr test end_of-FlatExpr) l (more_of-FlatExpr left end_of-FlatExpr) r' (more_of-FlatExpr right end_of-FlatExpr)) scope b c h r =
        ap (λ u. branch None (truth u) (flat_outcome n s left b) (flat_outcome n s right b)) (outcome_alike test scope b c h r.0)
        ∙ (ap (λ u. branch None (truth (flat_outcome n s test c)) u (flat_outcome n s right b)) (outcome_alike left scope b c h r.1)
        ∙ ap (λ u. branch None (truth (flat_outcome n s test c)) (flat_outcome n s left c) u) (outcome_alike right scope b c h r.2))
    outcome_alike (All' shape (more_of-FlatExpr body end_of-FlatExpr) var over place) scope b c h r =
        ap (λ ts. bit (conjunction ts)) (map_agree (λ v. truth (flat_outcome n s body (bind b var v))) (λ v. truth (flat_outcome n s body (bind c var v)))
        (λ v. ap truth (outcome_alike body (under var scope) (bind b var v) (bind c var v) (agree_under scope var v b c h) r)) (values_in n over))
    outcome_alike (Any' shape (more_of-FlatExpr body end_of-FlatExpr) var over place) scope b c h r =
        ap (λ ts. bit (disjunction ts)) (map_agree (λ v. truth (flat_outcome n s body (bind b var v))) (λ v. truth (flat_outcome n s body (bind c var v)))
        (λ v. ap truth (outcome_alike body (under var scope) (bind b var v) (bind c var v) (agree_under scope var v b c h) r)) (values_in n over))
    outcome_alike (List' shape members place) scope b c h r = refl
    outcome_alike (Each' var over test place) scope b c h r = refl

    outcomes_alike : {m : _} (row : Row_of-FlatExpr m) (scope : ℕ → Bool) (b c : List Value) → Agree scope b c → ReadOnly scope row → flat_outcomes n s row b ≡ flat_outcomes n s row c
    outcomes_alike end_of-FlatExpr scope b c h r = refl
    outcomes_alike (more_of-FlatExpr e others) scope b c h r =
        ap (λ u. u ∷ flat_outcomes n s others b) (outcome_alike e scope b c h r.0) ∙ ap (λ us. flat_outcome n s e c ∷ us) (outcomes_alike others scope b c h r.1)

    sum_alike : {m : _} (row : Row_of-FlatSigned m) (u : Outcome) (scope : ℕ → Bool) (b c : List Value) → Agree scope b c → ReadSigned scope row → flat_sum n s row u b ≡ flat_sum n s row u c
    sum_alike end_of-FlatSigned u scope b c h r = refl
    sum_alike (more_of-FlatSigned minus e others) u scope b c h r =
        ap (λ v. flat_sum n s others (add minus u v) b) (outcome_alike e scope b c h r.0) ∙ sum_alike others (add minus u (flat_outcome n s e c)) scope b c h r.1

    listed_alike : (e : FlatExpr) (scope : ℕ → Bool) (b c : List Value) → Agree scope b c → ReadsOnly scope e → flat_listed n s e b ≡ flat_listed n s e c
    listed_alike (List' shape members place) scope b c h r = members_alike members scope b c h r
    listed_alike _ scope b c h r = refl

    members_alike : {m : _} (row : Row_of-FlatMember m) (scope : ℕ → Bool) (b c : List Value) → Agree scope b c → ReadMembers scope row → flat_members n s row b ≡ flat_members n s row c
    members_alike end_of-FlatMember scope b c h r = refl
    members_alike (more_of-FlatMember (One e) others) scope b c h r =
        ap (λ u. u ∷ flat_members n s others b) (outcome_alike e scope b c h r.0) ∙ ap (λ us. flat_outcome n s e c ∷ us) (members_alike others scope b c h r.1)
    members_alike (more_of-FlatMember (SpanOf span place) others) scope b c h r =
        ap (λ us. map (λ k. Some (number k)) (numbers_from span.low (span.high + 1 - span.low)) ++ us) (members_alike others scope b c h r)
