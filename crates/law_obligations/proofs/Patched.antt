-- A whole expression says the same of two states that give each element of the design one value; so does a whole definition.
use Rattle.std.proofs.Common.{◌≡◌, ℕ, suc, ◌+◌, ◌-◌, List, [], ◌∷◌, ◌++◌, map, filter, length, Bool, true, false, if◌then◌else◌, refl, ap, ◌∙◌, Option, Some, None, option_map, unwrap_or}
use Rattle.std.specs.List.{list_any, slice_get, zip}
use Rattle.std.specs.Option.{is_none}
use Rattle.law_lists.proofs.Lists.{map_agree}
use Rattle.smv_core.specs.Values.{Value, number, Outcome, truth, bit, value_in, all_defined, compare, equal, add, modulo, numbers_from, not_of, iff_of, conjunction, disjunction, implication}
use Rattle.smv_core.specs.Outcome.{branch, fit, is_true}
use Rattle.smv_core.specs.Walk as walk
use Rattle.smv_core.specs.Walk.{if_walk, is_other}
use Rattle.smv_core.specs.FlatMeaning.{Numbered, FlatState, FlatElement, bind, values_in, flat_element_at, flat_outcome, flat_outcomes, flat_sum, flat_listed, flat_members, flat_meets, flat_allowed_by, flat_assigned, flat_result, flat_results, is_concerned_by, flat_kept, flat_stepped, flat_allowed}
use Rattle.smv_core.specs.declared.flat.Simple.{Simple as FlatSimple}
use Rattle.smv_core.specs.declared.flat.Family.{Family}
use Rattle.smv_core.specs.declared.flat.Def.{Def}
use Rattle.smv_core.specs.declared.flat.DefBody.{DefBody, Nothing, Assign, If', First', Forall', Row_of-DefBody, end_of-DefBody, more_of-DefBody}
use Rattle.smv_core.specs.declared.flat.FlatMember.{One, Span as SpanOf}
use Rattle.smv_core.specs.declared.flat.FlatExpr.{FlatExpr, Number, Read', Var, Loop, Constant, Not', And', Or', Implies', Iff', Compare', Within', Sum', Modulo', Choose', All', Any', List', Each', Held-FlatExpr-Each-2, None', Some', Row_of-FlatExpr, end_of-FlatExpr, more_of-FlatExpr, Row_of-FlatMember, end_of-FlatMember, more_of-FlatMember, Row_of-FlatSigned, end_of-FlatSigned, more_of-FlatSigned}
use Rattle.law_obligations.specs.Sets.{Has, first, later}
use Rattle.law_obligations.specs.Whole.{OneForEach, OneForEachOf, IsWhole, AreWhole, AreWholeSigned, AreWholeMembers, IsWholeHeld, IsWholeFlat, AreWholeFlats, IsWholeDef}

-- the values of the indexes, where each is of its type
abbrev index_values : Numbered → List FlatSimple → List Outcome → Option (List Value)
index_values n over us = all_defined (map (λ (t, u). value_in (values_in n t) u) (zip over us))

-- as many as there are types
abbrev IsLong : ℕ → Option (List Value) → Type 0
IsLong k None = Unit {0}
IsLong k (Some vs) = length vs ≡ k

longer : (v : Value) (k : ℕ) (o : Option (List Value)) → IsLong k o → IsLong (suc k) (option_map (λ vs. v ∷ vs) o)
longer v k None h = tt
longer v k (Some vs) h = ap suc h

defined_long : (v : Outcome) (k : ℕ) (us : List Outcome) → IsLong k (all_defined us) → IsLong (suc k) (all_defined (v ∷ us))
defined_long None k us h = tt
defined_long (Some v) k us h = longer v k (all_defined us) h

module _ (n : Numbered) (s t : FlatState) (same : (family : ℕ) (f : Family) → slice_get n.families family ≡ Some f → (vs : List Value) → length vs ≡ length f.over → s family vs ≡ t family vs) where
  indexes_long : {m : _} (over : List FlatSimple) (row : Row_of-FlatExpr m) (b : List Value) → OneForEach over row → IsLong (length over) (index_values n over (flat_outcomes n t row b))
  indexes_long [] row b h = refl
  indexes_long (u ∷ over) end_of-FlatExpr b h = elim h [ ]
  indexes_long (u ∷ over) (more_of-FlatExpr e others) b h =
      defined_long (value_in (values_in n u) (flat_outcome n t e b)) (length over) (map (λ (t, u). value_in (values_in n t) u) (zip over (flat_outcomes n t others b))) (indexes_long over others b h)

  element_same : (family : ℕ) (f : Family) → slice_get n.families family ≡ Some f → (o : Option (List Value)) → IsLong (length f.over) o → option_map (s family) o ≡ option_map (t family) o
  element_same family f e None h = refl
  element_same family f e (Some vs) h = ap Some (same family f e vs h)

  read_same : {m : _} (family : ℕ) (o : Option Family) → slice_get n.families family ≡ o → (row : Row_of-FlatExpr m) (b : List Value) → OneForEachOf o row →
      flat_element_at n s family o (flat_outcomes n t row b) ≡ flat_element_at n t family o (flat_outcomes n t row b)
  read_same family None e row b h = refl
  read_same family (Some f) e row b h = element_same family f e (index_values n f.over (flat_outcomes n t row b)) (indexes_long f.over row b h)

  mutual
    pub outcome_same : (e : FlatExpr) (b : List Value) → IsWhole n.families e → flat_outcome n s e b ≡ flat_outcome n t e b
    outcome_same (Number value place) b r = refl
    outcome_same (Read' family shape indexes place) b r =
        ap (flat_element_at n s family (slice_get n.families family)) (outcomes_same indexes b r.1) ∙ read_same family (slice_get n.families family) refl indexes b r.0
    outcome_same (Var var place) b r = refl
    outcome_same (Loop value place) b r = refl
    outcome_same (Constant list value place) b r = refl
    outcome_same (Not' shape (more_of-FlatExpr e end_of-FlatExpr) place) b r = ap (λ u. bit (not_of (truth u))) (outcome_same e b r)
    outcome_same (And' shape parts) b r = ap (λ us. bit (conjunction (map truth us))) (outcomes_same parts b r)
    outcome_same (Or' shape parts) b r = ap (λ us. bit (disjunction (map truth us))) (outcomes_same parts b r)
    outcome_same (Implies' shape parts) b r = ap (λ us. bit (implication (map truth us))) (outcomes_same parts b r)
    outcome_same (Iff' l (more_of-FlatExpr left end_of-FlatExpr) r' (more_of-FlatExpr right end_of-FlatExpr)) b r =
        ap (λ u. bit (iff_of (truth u) (truth (flat_outcome n s right b)))) (outcome_same left b r.0) ∙ ap (λ u. bit (iff_of (truth (flat_outcome n t left b)) (truth u))) (outcome_same right b r.1)
    outcome_same (Compare' op l (more_of-FlatExpr left end_of-FlatExpr) r' (more_of-FlatExpr right end_of-FlatExpr)) b r =
        ap (λ u. bit (compare op u (flat_outcome n s right b))) (outcome_same left b r.0) ∙ ap (λ u. bit (compare op (flat_outcome n t left b) u)) (outcome_same right b r.1)
    outcome_same (Within' l (more_of-FlatExpr left end_of-FlatExpr) r' (more_of-FlatExpr set end_of-FlatExpr)) b r =
        ap (λ u. bit (disjunction (map (equal u) (flat_listed n s set b)))) (outcome_same left b r.0) ∙ ap (λ us. bit (disjunction (map (equal (flat_outcome n t left b)) us))) (listed_same set b r.1)
    outcome_same (Sum' f (more_of-FlatExpr head end_of-FlatExpr) shape more) b r = ap (λ u. flat_sum n s more u b) (outcome_same head b r.0) ∙ sum_same more (flat_outcome n t head b) b r.1
    outcome_same (Modulo' shape (more_of-FlatExpr e end_of-FlatExpr) by place) b r = ap (λ u. modulo u by) (outcome_same e b r)
    outcome_same (Choose' t' (more_of-FlatExpr test end_of-FlatExpr) l (more_of-FlatExpr left end_of-FlatExpr) r' (more_of-FlatExpr right end_of-FlatExpr)) b r =
        ap (λ u. branch None (truth u) (flat_outcome n s left b) (flat_outcome n s right b)) (outcome_same test b r.0)
        ∙ (ap (λ u. branch None (truth (flat_outcome n t test b)) u (flat_outcome n s right b)) (outcome_same left b r.1)
        ∙ ap (λ u. branch None (truth (flat_outcome n t test b)) (flat_outcome n t left b) u) (outcome_same right b r.2))
    outcome_same (All' shape (more_of-FlatExpr body end_of-FlatExpr) var over place) b r =
        ap (λ ts. bit (conjunction ts)) (map_agree (λ v. truth (flat_outcome n s body (bind b var v))) (λ v. truth (flat_outcome n t body (bind b var v))) (λ v. ap truth (outcome_same body (bind b var v) r)) (values_in n over))
    outcome_same (Any' shape (more_of-FlatExpr body end_of-FlatExpr) var over place) b r =
        ap (λ ts. bit (disjunction ts)) (map_agree (λ v. truth (flat_outcome n s body (bind b var v))) (λ v. truth (flat_outcome n t body (bind b var v))) (λ v. ap truth (outcome_same body (bind b var v) r)) (values_in n over))
    outcome_same (List' shape members place) b r = refl
    outcome_same (Each' var over test place) b r = refl

    outcomes_same : {m : _} (row : Row_of-FlatExpr m) (b : List Value) → AreWhole n.families row → flat_outcomes n s row b ≡ flat_outcomes n t row b
    outcomes_same end_of-FlatExpr b r = refl
    outcomes_same (more_of-FlatExpr e others) b r = ap (λ u. u ∷ flat_outcomes n s others b) (outcome_same e b r.0) ∙ ap (λ us. flat_outcome n t e b ∷ us) (outcomes_same others b r.1)

    sum_same : {m : _} (row : Row_of-FlatSigned m) (u : Outcome) (b : List Value) → AreWholeSigned n.families row → flat_sum n s row u b ≡ flat_sum n t row u b
    sum_same end_of-FlatSigned u b r = refl
    sum_same (more_of-FlatSigned minus e others) u b r = ap (λ v. flat_sum n s others (add minus u v) b) (outcome_same e b r.0) ∙ sum_same others (add minus u (flat_outcome n t e b)) b r.1

    listed_same : (e : FlatExpr) (b : List Value) → IsWhole n.families e → flat_listed n s e b ≡ flat_listed n t e b
    listed_same (List' shape members place) b r = members_same members b r
    listed_same _ b r = refl

    members_same : {m : _} (row : Row_of-FlatMember m) (b : List Value) → AreWholeMembers n.families row → flat_members n s row b ≡ flat_members n t row b
    members_same end_of-FlatMember b r = refl
    members_same (more_of-FlatMember (One e) others) b r = ap (λ u. u ∷ flat_members n s others b) (outcome_same e b r.0) ∙ ap (λ us. flat_outcome n t e b ∷ us) (members_same others b r.1)
    members_same (more_of-FlatMember (SpanOf span place) others) b r = ap (λ us. map (λ k. Some (number k)) (numbers_from span.low (span.high + 1 - span.low)) ++ us) (members_same others b r)

  meets_same : (cond : Held-FlatExpr-Each-2) (b : List Value) → IsWholeHeld n.families cond → flat_meets n s cond b ≡ flat_meets n t cond b
  meets_same None' b r = refl
  meets_same (Some' shape (more_of-FlatExpr cond end_of-FlatExpr)) b r = ap (λ u. is_true (truth u)) (outcome_same cond b r)

  filter_same : (f g : Value → Bool) → ((v : Value) → f v ≡ g v) → (vs : List Value) → filter f vs ≡ filter g vs
  filter_same f g h [] = refl
  filter_same f g h (v ∷ vs) = rw (h v) (at (g v) (filter_same f g h vs))
    where
      at : (b : Bool) → filter f vs ≡ filter g vs → (if b then v ∷ filter f vs else filter f vs) ≡ (if b then v ∷ filter g vs else filter g vs)
      at true e = ap (λ us. v ∷ us) e
      at false e = e

  pub allowed_same : (every : List Value) (e : FlatExpr) (b : List Value) → IsWhole n.families e → flat_allowed_by n s every e b ≡ flat_allowed_by n t every e b
  allowed_same every (List' shape members place) b r = ap (fit every) (members_same members b r)
  allowed_same every (Each' var over cond place) b r =
      ap (λ vs. fit every (map Some vs)) (filter_same (λ v. flat_meets n s cond (bind b var v)) (λ v. flat_meets n t cond (bind b var v)) (λ v. meets_same cond (bind b var v) r) (values_in n over))
  allowed_same every (Choose' t' (more_of-FlatExpr test end_of-FlatExpr) l (more_of-FlatExpr left end_of-FlatExpr) r' (more_of-FlatExpr right end_of-FlatExpr)) b r =
      ap (λ u. branch every (truth u) (flat_allowed_by n s every left b) (flat_allowed_by n s every right b)) (outcome_same test b r.0)
      ∙ (ap (λ vs. branch every (truth (flat_outcome n t test b)) vs (flat_allowed_by n s every right b)) (allowed_same every left b r.1)
      ∙ ap (λ vs. branch every (truth (flat_outcome n t test b)) (flat_allowed_by n t every left b) vs) (allowed_same every right b r.2))
  allowed_same every e b r = ap (λ u. fit every (u ∷ [])) (outcome_same e b r)

  -- definitions
  module _ (x : FlatElement) (every : List Value) where
    left_same : (left : List FlatExpr) (b : List Value) → ((e : FlatExpr) → Has left e → IsWhole n.families e) → map (λ e. flat_outcome n s e b) left ≡ map (λ e. flat_outcome n t e b) left
    left_same [] b r = refl
    left_same (e ∷ left) b r = ap (λ u. u ∷ map (λ e. flat_outcome n s e b) left) (outcome_same e b (r e first)) ∙ ap (λ us. flat_outcome n t e b ∷ us) (left_same left b (λ e k. r e (later k)))

    assigned_same : (us : List Outcome) (value : FlatExpr) (b : List Value) → IsWhole n.families value → flat_assigned n s x every us value b ≡ flat_assigned n t x every us value b
    assigned_same us value b r = ap (λ vs. if list_any (λ (u, v). is_other u v) (zip us x.indexes) then None else if list_any is_none us then Some every else Some vs) (allowed_same every value b r)

    mutual
      pub result_same : (def : DefBody) (b : List Value) → IsWholeFlat n.families def → flat_result n s x every def b ≡ flat_result n t x every def b
      result_same Nothing b r = refl
      result_same (Assign left value place offset) b r =
          ap (λ us. flat_assigned n s x every us value b) (left_same left b r.0) ∙ assigned_same (map (λ e. flat_outcome n t e b) left) value b r.1
      result_same (If' cond l (more_of-DefBody left end_of-DefBody) r' (more_of-DefBody right end_of-DefBody)) b r =
          ap (λ u. if_walk every (truth u) (flat_result n s x every left b) (flat_result n s x every right b)) (outcome_same cond b r.0)
          ∙ (ap (λ w. if_walk every (truth (flat_outcome n t cond b)) w (flat_result n s x every right b)) (result_same left b r.1)
          ∙ ap (λ w. if_walk every (truth (flat_outcome n t cond b)) (flat_result n t x every left b) w) (result_same right b r.2))
      result_same (First' shape parts) b r = results_same parts b r
      result_same (Forall' var over shape (more_of-DefBody body end_of-DefBody)) b r =
          ap walk.first (map_agree (λ v. flat_result n s x every body (bind b var v)) (λ v. flat_result n t x every body (bind b var v)) (λ v. result_same body (bind b var v) r) (values_in n over))

      results_same : {m : _} (row : Row_of-DefBody m) (b : List Value) → AreWholeFlats n.families row → flat_results n s x every row b ≡ flat_results n t x every row b
      results_same end_of-DefBody b r = refl
      results_same (more_of-DefBody part others) b r =
          ap (λ w. walk.first_of w (flat_results n s x every others b)) (result_same part b r.0) ∙ ap (walk.first_of (flat_result n t x every part b)) (results_same others b r.1)

-- two states with one value for each element
abbrev pub AreSame : Numbered → FlatState → FlatState → Type 0
AreSame n s t = (family : ℕ) (f : Family) → slice_get n.families family ≡ Some f → (vs : List Value) → length vs ≡ length f.over → s family vs ≡ t family vs

abbrev pub AreSameBefore : Numbered → Option FlatState → Option FlatState → Type 0
AreSameBefore n None None = Unit {0}
AreSameBefore n (Some s) (Some t) = AreSame n s t
AreSameBefore n _ _ = ⊥

module _ (n : Numbered) (def : Def) (f : Family) (is_family : slice_get n.families def.family ≡ Some f) (is_whole : IsWholeDef n.families def) (xs : List Value) (long : length xs ≡ length f.over) (every : List Value) where
  abbrev x : FlatElement
  x = record { family = def.family; indexes = xs }

  kept_same : (s t : FlatState) → AreSame n s t → flat_kept n def x every s ≡ flat_kept n def x every t
  kept_same s t same = ap (λ v. if is_concerned_by def.next x then v ∷ [] else every) (same def.family f is_family xs long)

  stepped_same : (before after : Option FlatState) → AreSameBefore n before after → (s t : FlatState) → AreSame n s t → flat_stepped n def x every before s ≡ flat_stepped n def x every after t
  stepped_same None None same_before s t same = ap (λ w. unwrap_or w every) (result_same n s t same x every def.init [] is_whole.init)
  stepped_same (Some p) (Some q) same_before s t same =
      ap (λ w. unwrap_or w (flat_kept n def x every p)) (result_same n p q same_before x every def.next [] is_whole.next) ∙ ap (unwrap_or (flat_result n q x every def.next [])) (kept_same p q same_before)
  stepped_same None (Some q) same_before s t same = elim same_before [ ]
  stepped_same (Some p) None same_before s t same = elim same_before [ ]

  pub definition_same : (before after : Option FlatState) → AreSameBefore n before after → (s t : FlatState) → AreSame n s t → flat_allowed n def x every before s ≡ flat_allowed n def x every after t
  definition_same before after same_before s t same =
      ap (λ w. if is_concerned_by def.comb x then unwrap_or w every else flat_stepped n def x every before s) (result_same n s t same x every def.comb [] is_whole.comb)
      ∙ ap (λ vs. if is_concerned_by def.comb x then unwrap_or (flat_result n t x every def.comb []) every else vs) (stepped_same before after same_before s t same)
