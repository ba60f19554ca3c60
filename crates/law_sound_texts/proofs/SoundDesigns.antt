-- The units of a design hold where those of the text do.
use Rattle.std.proofs.Common.{◌≡◌, List, [], ◌∷◌, flat_map, All, Some, None, true, refl, sym, subst, arith}
use Rattle.std.specs.List.{AllZip}
use Rattle.smv_core.specs.Values.{Value, Sizes}
use Rattle.smv_core.specs.FlatOrder.{TextDesign, design_of}
use Rattle.smv_core.specs.Outcome.{State}
use Rattle.smv_core.specs.Allowed.{said_in}
use Rattle.smv_core.specs.Types.{Family}
use Rattle.smv_core.specs.Outcome.{family_at}
use Rattle.smv_core.specs.Sound as tree
use Rattle.smv_core.specs.Sound.{ProofUnit, AtEachTime, Holds, IsSound, instances, units}
use Rattle.smv_core.specs.FlatMeaning.{Numbered, FlatState}
use Rattle.smv_core.specs.declared.tree.Text.{Text}
use Rattle.smv_core.specs.declared.flat.Design.{Design as FlatDesign}
use Rattle.smv_core.specs.declared.flat.Unit.{Unit as DesignUnit}
use Rattle.smv_core.specs.declared.flat.Unit.TheVariants.{Map, Claim}
use Rattle.law_designs.specs.Flattening.{flatten}
use Rattle.law_designs.specs.Agreement.{AreSameStates, IsSameFamily, numbers_in}
use Rattle.law_designs.specs.SameActs.{IsSameAct, layered_acts}
use Rattle.law_designs.specs.Definitions.{design_of_flat_text}
use Rattle.law_designs.specs.Laws.{AllowsAsTheText}
use Rattle.law_obligations.specs.Sets.{Has}
use Rattle.law_obligations.specs.Circular.{always}
use Rattle.law_obligations.specs.Soundness as flat
use Rattle.law_obligations.specs.Soundness.{FlatUnit, params_of, values_over, is_held}
use Rattle.law_obligations.specs.Outlines.{names_of, bases, unit_in, as_map, as_claim}
use Rattle.law_obligations.specs.Units.{units_of}
use Rattle.law_obligations.proofs.OneOfEach.{get_Has, Has_get}
use Rattle.law_sound_texts.specs.TextExtension.{LayersAreSame}
use Rattle.law_flat_kinds.specs.FamiliesFound.{FamiliesAreFound}
use Rattle.law_sound_texts.proofs.Faultless.{IsFaultless}
use Rattle.law_sound_texts.proofs.Texts.{All-each, to_flat, flat_same}
use Rattle.law_sound_texts.specs.Exact.{LeftSidesAreExact}
use Rattle.law_sound_texts.specs.Carried.{RunsAreCarriedBack}
use Rattle.law_sound_texts.proofs.Units.{IsOfDesign, unit-of}
use Rattle.law_sound_texts.proofs.TextUnits.{claim-there}
use Rattle.law_sound_texts.proofs.TextSizes.{text_sizes}
use Rattle.law_sound_texts.proofs.Claims.{ClaimsAreSame}
use Rattle.law_sound_texts.proofs.DesignClaims.{claim_always}
use Rattle.law_sound_texts.proofs.DesignMaps.{map_always}

module _ (text : Text) (sizes : Sizes) (families : AllZip (IsSameFamily (numbers_in text sizes)) (flatten text).families (design_of text).families) (found : FamiliesAreFound text)
    (allows : All (AllowsAsTheText text) (design_of_flat_text (flatten text)).defs) (faultless : IsFaultless (design_of_flat_text (flatten text))) (layers : LayersAreSame text)
    (acts : AllZip (IsSameAct text) (layered_acts (flatten text).items) (flat_map said_in (design_of text).met)) (exact : LeftSidesAreExact (flatten text)) (claims : ClaimsAreSame text sizes)
    (back : RunsAreCarriedBack text) (sound : IsSound text) (are : flat.AreSizes (names_of (design_of_flat_text (flatten text))) sizes) where
  abbrev d : TextDesign
  d = design_of text

  abbrev f : FlatDesign
  f = design_of_flat_text (flatten text)

  abbrev n : Numbered
  n = numbers_in text sizes

  -- an instance of a unit of the design always holds
  abbrev AlwaysHeld : List FlatState → FlatUnit → Type 0
  AlwaysHeld ts unit = (vs : List Value) → Has (values_over n (params_of n unit)) vs → always (is_held n unit vs) None ts ≡ true

  found_at : (h : Family) → Has d.families h → family_at d.families h.path ≡ Some h
  found_at h m = let k = Has_get m in (found k.0 h k.1).0

  by_unit : (run : List State) (ts : List FlatState) → AllZip (AreSameStates d.families) run ts → ((u : ProofUnit) → Has (units d) u → (vs : List Value) → Has (instances d sizes u) vs → AtEachTime (Holds d sizes u vs) None run) →
      (unit : DesignUnit) → IsOfDesign f unit → AlwaysHeld ts (unit_in f unit)
  by_unit run ts states holds (Map k) (def, at, refines) =
      subst (λ o. AlwaysHeld ts (as_map o)) (sym at)
      (λ vs i. map_always text sizes families found allows faultless layers acts exact run ts states (λ layer h m vs j. holds (tree.map_of layer h) m vs j) def (get_Has f.defs k def at) refines vs i)
  by_unit run ts states holds (Claim k) (c, at) =
      subst (λ o. AlwaysHeld ts (as_claim o)) (sym at)
      (λ vs i. claim_always text sizes claims (λ s. (to_flat text sizes families found s, flat_same text sizes families found s)) run ts states (λ c m vs j. holds (tree.claim_of c) (claim-there d found_at c m) vs j) k c at vs i)

  pub design_holds : (ts : List FlatState) → flat.IsRun n (bases f) ts → (unit : DesignUnit) → Has (units_of f) unit → AlwaysHeld ts (unit_in f unit)
  design_holds [] is unit m = λ vs i. refl
  design_holds (t ∷ ts) is unit m =
      let r = back sizes (t ∷ ts) (omega arith) is in
      by_unit r.0 (t ∷ ts) r.1
      (λ u k vs j. All-each (λ vs. AtEachTime (Holds d sizes u vs) None r.0) (instances d sizes u) vs
      (All-each (λ u. All (λ vs. AtEachTime (Holds d sizes u vs) None r.0) (instances d sizes u)) (units d) u (sound sizes (text_sizes sizes text are) r.0 r.2) k) j)
      unit (unit-of f unit m)
