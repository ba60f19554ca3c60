-- Claims that hold in the text hold in its design.
use Rattle.std.proofs.Common.{◌≡◌, ℕ, List, [], length, Some, None, true, sym, ap, subst, ◌∙◌, slice_get}
use Rattle.std.specs.List.{AllZip}
use Rattle.std.proofs.lemmas.List.{length-map}
use Rattle.law_lists.proofs.Lists.{map-map}
use Rattle.law_lists.proofs.Options.{some_is}
use Rattle.smv_core.specs.Values.{Name, Value, Sizes, number, truth}
use Rattle.smv_core.specs.Types.{values_over as values_of_type}
use Rattle.smv_core.specs.FlatOrder.{TextDesign, design_of, Claimed}
use Rattle.smv_core.specs.Outcome.{State, outcome, is_true}
use Rattle.smv_core.specs.Allowed.{scene_at}
use Rattle.smv_core.specs.Sound as tree
use Rattle.smv_core.specs.Sound.{bound, choices, instances, Holds, AtEachTime}
use Rattle.smv_core.specs.FlatMeaning.{Numbered, FlatState, values_in, flat_outcome}
use Rattle.smv_core.specs.declared.tree.Text.{Text}
use Rattle.smv_core.specs.declared.tree.TypeExpr.{TypeExpr}
use Rattle.smv_core.specs.declared.flat.Claim.{Claim as FlatClaim}
use Rattle.smv_core.specs.declared.flat.Param.{Param}
use Rattle.smv_core.specs.declared.flat.FlatText.{FlatText}
use Rattle.law_designs.specs.Flattening.{flatten}
use Rattle.law_designs.specs.Agreement.{AreSameStates, numbers_in}
use Rattle.law_designs.specs.WholeText.{IsSameClaim, claims_of, claims_met}
use Rattle.law_obligations.specs.Sets.{Has, one_of_each}
use Rattle.law_obligations.specs.Circular.{always}
use Rattle.law_obligations.specs.Soundness.{claim_of, params_of, values_over, is_held}
use Rattle.law_obligations.proofs.OneOfEach.{get_Has}
use Rattle.law_sound_texts.proofs.Texts.{zip_left}
use Rattle.law_sound_texts.proofs.Claims.{ClaimsAreSame, types}
use Rattle.law_sound_texts.proofs.Times.{always-from, one-choices, choice-length}

module _ (text : Text) (sizes : Sizes) (claims : ClaimsAreSame text sizes) (same : (s : State) → (t : FlatState) × AreSameStates (design_of text).families s t) (run : List State) (ts : List FlatState) (states : AllZip (AreSameStates (design_of text).families) run ts)
    (holds : (c : Claimed) → Has (claims_met (design_of text).met) c → (vs : List Value) → Has (instances (design_of text) sizes (tree.claim_of c)) vs → AtEachTime (Holds (design_of text) sizes (tree.claim_of c) vs) None run) where
  abbrev d : TextDesign
  d = design_of text

  abbrev flat_text : FlatText
  flat_text = flatten text

  abbrev n : Numbered
  n = numbers_in text sizes

  pub claim_always : (k : ℕ) (fc : FlatClaim) → slice_get (claims_of flat_text.items) k ≡ Some fc → (vs : List Value) → Has (values_over n (params_of n (claim_of fc))) vs → always (is_held n (claim_of fc) vs) None ts ≡ true
  claim_always k fc at vs i =
      let t : (t : FlatState) × AreSameStates d.families (λ path vs. number 0) t = same (λ path vs. number 0) in
      let r : (c : Claimed) × (slice_get (claims_met d.met) k ≡ Some c) × IsSameClaim text sizes (λ path vs. number 0) t.0 fc c =
      zip_left (IsSameClaim text sizes (λ path vs. number 0) t.0) (claims_of flat_text.items) (claims_met d.met) (claims (λ path vs. number 0) t.0 t.1) k fc at in
      let over : Has (choices (types text sizes r.0)) vs = subst (λ l. Has l vs) (ap one_of_each (map-map (values_in n) (λ (p : Param). p.over) fc.params ∙ r.2.1) ∙ one-choices (types text sizes r.0)) i in
      let long : length vs ≡ length r.0.params = choice-length (types text sizes r.0) vs over ∙ length-map r.0.params (λ ((name, over) : Name × TypeExpr). values_of_type d.types sizes over) in
      always-from d.families (Holds d sizes (tree.claim_of r.0) vs) (is_held n (claim_of fc) vs) (λ before fore b s t same_states held. says r.0 r.1 long s t same_states held) None None tt run ts states
      (holds r.0 (get_Has (claims_met d.met) k r.0 r.1) vs over)
    where
      says : (c : Claimed) → slice_get (claims_met d.met) k ≡ Some c → length vs ≡ length c.params → (s : State) (t : FlatState) → AreSameStates d.families s t → outcome (scene_at d sizes c.instance) s c.body (bound c.params vs []) ≡ Some (number 1) →
          is_true (truth (flat_outcome n t fc.body vs)) ≡ true
      says c there long s t same_states held =
          let r : (other : Claimed) × (slice_get (claims_met d.met) k ≡ Some other) × IsSameClaim text sizes s t fc other = zip_left (IsSameClaim text sizes s t) (claims_of flat_text.items) (claims_met d.met) (claims s t same_states) k fc at in
          let own : IsSameClaim text sizes s t fc c = subst (IsSameClaim text sizes s t fc) (some_is (sym r.1 ∙ there)) r.2 in
          ap (λ o. is_true (truth o)) (own.2 vs long ∙ held)
