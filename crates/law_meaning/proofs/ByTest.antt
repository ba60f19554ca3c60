-- Runs and violating paths that are written out, shown by computing: a test for each condition, and that what passes the test meets the condition.
use Rattle.std.proofs.Common.{◌≡◌, ℕ, zero, suc, ◌<◌, List, [], ◌∷◌, length, Some, None, Option, true, false, Bool, not, ◌&&◌, ◌||◌, refl, sym, ap, ◌∙◌, subst, Contains, All, get_or, arith}
use Rattle.std.specs.List.{list_all}
use Rattle.std.proofs.lemmas.List.Elements.{Contains-append_right}
use Rattle.std.proofs.lemmas.Bool.{both_ways}
use Rattle.law_lists.proofs.Booleans.{left_of, right_of}
use Rattle.law_lists.proofs.Each.{all_passes}
use Rattle.smv_core.specs.Values.{Value, number, Sizes, Outcome, same, is_in, values_of}
use Rattle.smv_core.specs.Types.{Family}
use Rattle.smv_core.specs.FlatOrder.{TextDesign}
use Rattle.smv_core.specs.Outcome.{State, outcome}
use Rattle.smv_core.specs.Allowed.{allowed, allowed_by_base, scene_at}
use Rattle.smv_core.specs.Sound.{ProofUnit, map_of, claim_of, instances, indexes_in, bound, Holds, IsTyped, MeetsBase, EachElement, IsRun, AtEachTime}
use Rattle.smv_core.specs.Violating.{AtLastTime, IsViolating}
use Rattle.law_meaning.proofs.AtMostOne.{same-is, same-refl}

in-by : (vs : List Value) (v : Value) → is_in vs v ≡ true → Contains vs v
in-by [] v h = absurd (cc)
in-by (u ∷ vs) v h = by_first (same v u) refl h (in-by vs v)
  where
    by_first : (b : Bool) → same v u ≡ b → (b || is_in vs v) ≡ true → (is_in vs v ≡ true → Contains vs v) → Contains (u ∷ vs) v
    by_first true e h rest = (0, omega arith, sym (same-is v u e))
    by_first false e h rest = Contains-append_right (u ∷ []) vs v (rest h)

by-in : (vs : List Value) (v : Value) → Contains vs v → is_in vs v ≡ true
by-in [] v p = absurd (omega (arith, p.1))
by-in (u ∷ vs) v p = at_place p.0 p.1 p.2 (by-in vs v)
  where
    or-true : (b : Bool) → (b || true) ≡ true
    or-true true = refl
    or-true false = refl

    at_place : (n : ℕ) → n < length (u ∷ vs) → get_or (u ∷ vs) n v ≡ v → (Contains vs v → is_in vs v ≡ true) → is_in (u ∷ vs) v ≡ true
    at_place zero h e rest = ap (λ b. b || is_in vs v) (subst (λ y. same v y ≡ true) (sym e) (same-refl v))
    at_place (suc n) h e rest = ap (λ b. same v u || b) (rest (n, omega (arith, h), e)) ∙ or-true (same v u)

abbrev is_one : Outcome → Bool
is_one (Some (number (suc zero))) = true
is_one _ = false

module _ (d : TextDesign) (sizes : Sizes) where
  abbrev each_element : (Family → List Value → Bool) → Bool
  each_element test = list_all (λ f. list_all (test f) (indexes_in sizes f)) d.families

  each-by : (P : Family → List Value → Type 0) (test : Family → List Value → Bool) → ((f : Family) (vs : List Value) → test f vs ≡ true → P f vs) → each_element test ≡ true → EachElement d sizes P
  each-by P test each h = all_passes (λ f. All (P f) (indexes_in sizes f)) (λ f. list_all (test f) (indexes_in sizes f)) (λ f. all_passes (P f) (test f) (each f) (indexes_in sizes f)) d.families h

  -- each element has a value of its type
  abbrev is_typed : State → Bool
  is_typed s = each_element (λ f vs. is_in (values_of sizes f.value) (s f.path vs))

  -- each element has a value that its base definition allows
  abbrev meets_base : Option State → State → Bool
  meets_base before now = each_element (λ f vs. is_in (allowed_by_base d sizes f (record { path = f.path; indexes = vs }) before now) (now f.path vs))

  abbrev at_each_time : Option State → List State → Bool
  at_each_time before [] = true
  at_each_time before (s ∷ run) = meets_base before s && at_each_time (Some s) run

  abbrev pub is_run : List State → Bool
  is_run [] = false
  is_run (s ∷ run) = list_all is_typed (s ∷ run) && at_each_time None (s ∷ run)

  typed-by : (s : State) → is_typed s ≡ true → IsTyped d sizes s
  typed-by s h = each-by _ _ (λ f vs e. in-by (values_of sizes f.value) (s f.path vs) e) h

  meets-by : (before : Option State) (now : State) → meets_base before now ≡ true → MeetsBase d sizes before now
  meets-by before now h = each-by _ _ (λ f vs e. in-by (allowed_by_base d sizes f (record { path = f.path; indexes = vs }) before now) (now f.path vs) e) h

  times-by : (before : Option State) (run : List State) → at_each_time before run ≡ true → AtEachTime (MeetsBase d sizes) before run
  times-by before [] h = tt
  times-by before (s ∷ run) h = (meets-by before s (left_of (meets_base before s) (at_each_time (Some s) run) h), times-by (Some s) run (right_of (meets_base before s) (at_each_time (Some s) run) h))

  pub run-by : (run : List State) → is_run run ≡ true → IsRun d sizes run
  run-by [] h = absurd (cc)
  run-by (s ∷ run) h = (
    all_passes (IsTyped d sizes) is_typed typed-by (s ∷ run) (left_of (list_all is_typed (s ∷ run)) (at_each_time None (s ∷ run)) h),
    times-by None (s ∷ run) (right_of (list_all is_typed (s ∷ run)) (at_each_time None (s ∷ run)) h),
  )

  -- the instance of the unit holds
  abbrev holds : ProofUnit → List Value → Option State → State → Bool
  holds (map_of layer f) vs before now = is_in (allowed d sizes (Some layer) (record { path = f.path; indexes = vs }) before now) (now f.path vs)
  holds (claim_of c) vs before now = is_one (outcome (scene_at d sizes c.instance) now c.body (bound c.params vs []))

  one-by : (u : Outcome) → u ≡ Some (number 1) → is_one u ≡ true
  one-by u e = ap is_one e

  fails-by : (unit : ProofUnit) (vs : List Value) (before : Option State) (now : State) → holds unit vs before now ≡ false → ¬ Holds d sizes unit vs before now
  fails-by (map_of layer f) vs before now h p = both_ways _ h (by-in (allowed d sizes (Some layer) (record { path = f.path; indexes = vs }) before now) (now f.path vs) p)
  fails-by (claim_of c) vs before now h p = both_ways _ h (one-by (outcome (scene_at d sizes c.instance) now c.body (bound c.params vs [])) p)

  -- the instance fails at the last time
  abbrev pub fails_last : ProofUnit → List Value → Option State → List State → Bool
  fails_last unit vs before [] = false
  fails_last unit vs before (s ∷ []) = not (holds unit vs before s)
  fails_last unit vs before (s ∷ t ∷ run) = fails_last unit vs (Some s) (t ∷ run)

  not-true : (b : Bool) → not b ≡ true → b ≡ false
  not-true true h = absurd (cc)
  not-true false h = refl

  last-by : (unit : ProofUnit) (vs : List Value) (before : Option State) (run : List State) → fails_last unit vs before run ≡ true → AtLastTime (λ b s. ¬ Holds d sizes unit vs b s) before run
  last-by unit vs before [] h = absurd (cc)
  last-by unit vs before (s ∷ []) h = fails-by unit vs before s (not-true (holds unit vs before s) h)
  last-by unit vs before (s ∷ t ∷ run) h = last-by unit vs (Some s) (t ∷ run) h

  -- a run that passes, an instance of the unit, and its failure at the last time
  pub violating-by : (unit : ProofUnit) (run : List State) (vs : List Value) → Contains (instances d sizes unit) vs → is_run run ≡ true → fails_last unit vs None run ≡ true → IsViolating d sizes unit run
  violating-by unit run vs among is fails = (run-by run is, (vs, among, last-by unit vs None run fails))
