-- A run of states that give each element a value of its type is one of states that do so also where indexes are missing.
use Rattle.std.proofs.Common.{◌≡◌, ℕ, List, [], ◌∷◌, map, length, Bool, true, false, if◌then◌else◌, refl, sym, ap, subst, ◌∙◌, arith, Option, Some, None, option_map, nat_eq}
use Rattle.std.specs.List.{slice_get}
use Rattle.law_lists.proofs.Lists.{length_map}
use Rattle.law_lists.proofs.Numbers.{nat_eq-is}
use Rattle.law_lists.proofs.Options.{some_is}
use Rattle.smv_core.specs.Values.{Value, truth, is_in}
use Rattle.smv_core.specs.Outcome.{is_true}
use Rattle.smv_core.specs.FlatMeaning.{Numbered, FlatState, values_in, flat_allowed}
use Rattle.smv_core.specs.declared.flat.Claim.{Claim}
use Rattle.smv_core.specs.declared.flat.Def.{Def}
use Rattle.smv_core.specs.declared.flat.Family.{Family}
use Rattle.smv_core.specs.declared.flat.Simple.{Simple as FlatSimple}
use Rattle.law_obligations.specs.Sets.{Has}
use Rattle.law_obligations.specs.Pictures.{AreOfTypes, IsState}
use Rattle.law_obligations.specs.Whole.{IsWhole, IsWholeDef}
use Rattle.law_obligations.specs.Soundness.{map_of, claim_of, values_of_family, values_over, is_held, IsTyped, HasValue}
use Rattle.law_obligations.proofs.Same.{nat_eq-itself}
use Rattle.law_obligations.proofs.OneOfEach.{AreOf, are_of, one_of, are_long, get_Has}
use Rattle.law_obligations.proofs.Patched.{AreSame, AreSameBefore, outcome_same, definition_same}

types_of : (n : Numbered) (over : List FlatSimple) (vs : List Value) → AreOfTypes n over vs → length vs ≡ length over → AreOf (map (values_in n) over) vs
types_of n [] [] h l = tt
types_of n [] (v ∷ vs) h l = elim h [ ]
types_of n (t ∷ over) [] h l = absurd (omega arith)
types_of n (t ∷ over) (v ∷ vs) h l = (h.0, types_of n over vs h.1 (omega arith))

module _ (n : Numbered) (filled : (f : Family) → Has n.families f → HasValue n f.value) where
  patched_at : FlatState → (family : ℕ) (o : Option Family) → slice_get n.families family ≡ o → List Value → Value
  patched_at s family None e vs = s family vs
  patched_at s family (Some f) e vs = if nat_eq (length vs) (length f.over) then s family vs else (filled f (get_Has n.families family f e)).0

  -- some value of its type where an element has too few indexes
  pub patched : FlatState → FlatState
  patched s family vs = patched_at s family (slice_get n.families family) refl vs

  same_at : (s : FlatState) (family : ℕ) (o : Option Family) (e : slice_get n.families family ≡ o) (f : Family) → o ≡ Some f → (vs : List Value) → length vs ≡ length f.over → s family vs ≡ patched_at s family o e vs
  unfolding patched_at
  same_at s family None e f i vs l = absurd (cc)
  same_at s family (Some g) e f i vs l = by_test (nat_eq (length vs) (length g.over)) (subst (λ k. nat_eq (length vs) k ≡ true) (l ∙ ap (λ f. length f.over) (sym (some_is i))) (nat_eq-itself (length vs)))
    where
      by_test : (b : Bool) → b ≡ true → s family vs ≡ (if b then s family vs else (filled g (get_Has n.families family g e)).0)
      by_test true p = refl
      by_test false p = absurd (cc)

  pub patched_same : (s : FlatState) → AreSame n s (patched s)
  unfolding patched
  patched_same s family f e vs l = same_at s family (slice_get n.families family) refl f e vs l

  state_at : (s : FlatState) → IsTyped n s → (family : ℕ) (o : Option Family) (e : slice_get n.families family ≡ o) (f : Family) → o ≡ Some f → (vs : List Value) → AreOfTypes n f.over vs →
      Has (values_in n f.value) (patched_at s family o e vs)
  unfolding patched_at
  state_at s typed family None e f i vs h = absurd (cc)
  state_at s typed family (Some g) e f i vs h = subst (λ f. Has (values_in n f.value) (if nat_eq (length vs) (length g.over) then s family vs else (filled g (get_Has n.families family g e)).0)) (some_is i)
      (by_test (nat_eq (length vs) (length g.over)) refl)
    where
      by_test : (b : Bool) → nat_eq (length vs) (length g.over) ≡ b → Has (values_in n g.value) (if b then s family vs else (filled g (get_Has n.families family g e)).0)
      by_test true p = typed family g e vs (one_of (map (values_in n) g.over) vs (types_of n g.over vs (subst (λ f. AreOfTypes n f.over vs) (sym (some_is i)) h) (nat_eq-is (length vs) (length g.over) p)))
      by_test false p = (filled g (get_Has n.families family g e)).1

  pub patched_state : (s : FlatState) → IsTyped n s → IsState n (patched s)
  unfolding patched
  patched_state s typed family f e vs h = state_at s typed family (slice_get n.families family) refl f e vs h

  same_before : (old : Option FlatState) → AreSameBefore n old (option_map patched old)
  same_before None = tt
  same_before (Some s) = patched_same s

  -- an instance holds of the patched states exactly where it holds of the states
  pub map_same : (def : Def) (f : Family) (is_family : slice_get n.families def.family ≡ Some f) → IsWholeDef n.families def → (xs : List Value) → Has (values_over n f.over) xs → (old : Option FlatState) (s : FlatState) →
      is_held n (map_of def) xs (option_map patched old) (patched s) ≡ is_held n (map_of def) xs old s
  map_same def f is_family whole xs h old s =
      let long = are_long (map (values_in n) f.over) xs (are_of (map (values_in n) f.over) xs h) ∙ length_map (values_in n) f.over in
      let every = values_of_family n (slice_get n.families def.family) in
      sym (ap (λ vs. is_in vs (s def.family xs)) (definition_same n def f is_family whole xs long every old (option_map patched old) (same_before old) s (patched s) (patched_same s))
      ∙ ap (is_in (flat_allowed n def (record { family = def.family; indexes = xs }) every (option_map patched old) (patched s))) (patched_same s def.family f is_family xs long))

  pub claim_same : (unit : Claim) (xs : List Value) (old : Option FlatState) (s : FlatState) → IsWhole n.families unit.body →
      is_held n (claim_of unit) xs (option_map patched old) (patched s) ≡ is_held n (claim_of unit) xs old s
  claim_same claim xs old s whole = sym (ap (λ u. is_true (truth u)) (outcome_same n s (patched s) (patched_same s) claim.body xs whole))
