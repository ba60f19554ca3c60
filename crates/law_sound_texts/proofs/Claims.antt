-- Claims that hold in the design hold in the text.
use Rattle.std.proofs.Common.{◌≡◌, ℕ, List, [], map, length, Some, None, true, sym, ap, subst, ◌∙◌, slice_get}
use Rattle.std.specs.List.{AllZip}
use Rattle.std.proofs.lemmas.List.{length-map}
use Rattle.law_lists.proofs.Lists.{map-map}
use Rattle.law_lists.proofs.Options.{some_is}
use Rattle.smv_core.specs.Values.{Name, Value, Sizes, number, truth}
use Rattle.smv_core.specs.Types.{values_over as values_of_type}
use Rattle.smv_core.specs.FlatOrder.{TextDesign, design_of, Claimed}
use Rattle.smv_core.specs.Outcome.{State, outcome, is_true}
use Rattle.smv_core.specs.Allowed.{scene_at}
use Rattle.smv_core.specs.Sound as tree
use Rattle.smv_core.specs.Sound.{bound, instances, Holds, AtEachTime}
use Rattle.smv_core.specs.FlatMeaning.{Numbered, FlatState, values_in, flat_outcome}
use Rattle.smv_core.specs.declared.tree.Text.{Text}
use Rattle.smv_core.specs.declared.tree.TypeExpr.{TypeExpr}
use Rattle.smv_core.specs.declared.flat.Claim.{Claim as FlatClaim}
use Rattle.smv_core.specs.declared.flat.Param.{Param}
use Rattle.smv_core.specs.declared.flat.Design.{Design as FlatDesign}
use Rattle.smv_core.specs.declared.flat.FlatText.{FlatText}
use Rattle.smv_core.specs.declared.flat.Unit.TheVariants.{Claim}
use Rattle.law_designs.specs.Flattening.{flatten}
use Rattle.law_designs.specs.Agreement.{AreSameStates, numbers_in}
use Rattle.law_designs.specs.WholeText.{IsSameClaim, claims_of, claims_met}
use Rattle.law_designs.specs.Definitions.{design_of_flat_text}
use Rattle.law_obligations.specs.Sets.{Has, one_of_each}
use Rattle.law_obligations.specs.Soundness as flat
use Rattle.law_obligations.specs.Soundness.{claim_of, params_of, values_over, is_held}
use Rattle.law_obligations.specs.Outlines.{names_of, bases, as_claim}
use Rattle.law_obligations.specs.Checked.{HoldsAlways}
use Rattle.law_obligations.proofs.OneOfEach.{Has_get}
use Rattle.law_obligations.proofs.GuardsKeep.{is_one}
use Rattle.law_sound_texts.proofs.Texts.{zip_right}
use Rattle.law_sound_texts.specs.Carried.{UnitsHold}
use Rattle.law_sound_texts.proofs.Units.{claim-unit}
use Rattle.law_sound_texts.proofs.Times.{at-each-time, one-choices, choice-length}

module _ (text : Text) (sizes : Sizes) where
  abbrev d : TextDesign
  d = design_of text

  abbrev flat_text : FlatText
  flat_text = flatten text

  abbrev f : FlatDesign
  f = design_of_flat_text (flatten text)

  abbrev n : Numbered
  n = numbers_in text sizes

  -- the claims of the text and of the flattened text, is_one for is_one, in states that are the same
  abbrev pub ClaimsAreSame : Type 0
  ClaimsAreSame = (s : State) (t : FlatState) → AreSameStates d.families s t → AllZip (IsSameClaim text sizes s t) (claims_of flat_text.items) (claims_met d.met)

  -- the values for the parameters of a claim
  abbrev pub types : Claimed → List (List Value)
  types c = map (λ ((name, over) : Name × TypeExpr). values_of_type d.types sizes over) c.params

  module _ (claims : ClaimsAreSame) (same : (s : State) → (t : FlatState) × AreSameStates d.families s t) (hold : UnitsHold f) (are : flat.AreSizes (names_of f) sizes)
      (run : List State) (ts : List FlatState) (states : AllZip (AreSameStates d.families) run ts) (is : flat.IsRun n (bases f) ts) where
    pub claim_holds : (c : Claimed) → Has (claims_met d.met) c → (vs : List Value) → Has (instances d sizes (tree.claim_of c)) vs → AtEachTime (Holds d sizes (tree.claim_of c) vs) None run
    claim_holds c there vs i =
        let k : (k : ℕ) × (slice_get (claims_met d.met) k ≡ Some c) = Has_get there in
        let t : (t : FlatState) × AreSameStates d.families (λ path vs. number 0) t = same (λ path vs. number 0) in
        let r : (fc : FlatClaim) × (slice_get (claims_of flat_text.items) k.0 ≡ Some fc) × IsSameClaim text sizes (λ path vs. number 0) t.0 fc c =
        zip_right (IsSameClaim text sizes (λ path vs. number 0) t.0) (claims_of flat_text.items) (claims_met d.met) (claims (λ path vs. number 0) t.0 t.1) k.0 c k.1 in
        let always_holds : HoldsAlways f (claim_of r.0) = subst (λ o. HoldsAlways f (as_claim o)) r.1 (hold (Claim k.0) (claim-unit f k.0 r.0 r.1)) in
        let over : Has (values_over n (params_of n (claim_of r.0))) vs = subst (λ l. Has l vs) (sym (ap one_of_each (map-map (values_in n) (λ (p : Param). p.over) r.0.params ∙ r.2.1) ∙ one-choices (types c))) i in
        let long : length vs ≡ length c.params = choice-length (types c) vs i ∙ length-map c.params (λ ((name, over) : Name × TypeExpr). values_of_type d.types sizes over) in
        at-each-time d.families (λ s. Unit {0}) (Holds d sizes (tree.claim_of c) vs) (is_held n (claim_of r.0) vs) (λ before fore b s t same_states typed held. says k.0 k.1 r.0 r.1 long s t same_states held) None None tt run ts states (λ s m. tt)
        (always_holds sizes are ts is vs over)
      where
        says : (k : ℕ) → slice_get (claims_met d.met) k ≡ Some c → (fc : FlatClaim) → slice_get (claims_of flat_text.items) k ≡ Some fc → length vs ≡ length c.params → (s : State) (t : FlatState) → AreSameStates d.families s t →
            is_true (truth (flat_outcome n t fc.body vs)) ≡ true → outcome (scene_at d sizes c.instance) s c.body (bound c.params vs []) ≡ Some (number 1)
        says k at fc flat_at long s t same_states held =
            let r : (other : FlatClaim) × (slice_get (claims_of flat_text.items) k ≡ Some other) × IsSameClaim text sizes s t other c =
            zip_right (IsSameClaim text sizes s t) (claims_of flat_text.items) (claims_met d.met) (claims s t same_states) k c at in
            let own : r.0 ≡ fc = some_is (sym r.1 ∙ flat_at) in
            sym (r.2.2 vs long) ∙ (ap (λ (c : FlatClaim). flat_outcome n t c.body vs) own ∙ is_one (flat_outcome n t fc.body vs) held)
