-- The units of a text hold where those of its design do.
use Rattle.std.proofs.Common.{◌≡◌, List, [], ◌∷◌, None, All, ap, sym, subst}
use Rattle.std.specs.List.{AllZip}
use Rattle.smv_core.specs.Values.{Value, Sizes}
use Rattle.smv_core.specs.FlatOrder.{design_of}
use Rattle.smv_core.specs.Outcome.{State}
use Rattle.smv_core.specs.Sound.{ProofUnit, map_of, claim_of, units, instances, Holds, AtEachTime, IsTyped, IsRun}
use Rattle.smv_core.specs.FlatMeaning.{FlatState}
use Rattle.smv_core.specs.declared.tree.Text.{Text}
use Rattle.law_designs.specs.Flattening.{flatten}
use Rattle.law_designs.specs.Agreement.{AreSameStates, IsSameFamily, numbers_in}
use Rattle.law_designs.specs.Definitions.{design_of_flat_text}
use Rattle.law_designs.specs.Laws.{AllowsAsTheText, IsFreeWithout}
use Rattle.law_obligations.specs.Sets.{Has}
use Rattle.law_obligations.specs.Soundness as flat
use Rattle.law_obligations.specs.Outlines.{Entry, Outline, Script, outline_of, names_of, bases, unit_in}
use Rattle.law_obligations.specs.Checked as script
use Rattle.law_obligations.specs.Checked.{HoldsAlways}
use Rattle.law_obligations.proofs.Members.{Has-from_map}
use Rattle.law_obligations.proofs.OneOfEach.{Has_get}
use Rattle.smv_core.specs.declared.flat.Design.{Design}
use Rattle.law_flat_kinds.specs.FamiliesFound.{FamiliesAreFound}
use Rattle.law_sound_texts.proofs.Faultless.{IsFaultless}
use Rattle.law_sound_texts.proofs.Texts.{Each-All, All-each, to_flat, flat_same}
use Rattle.law_sound_texts.specs.Carried.{UnitsHold, outlined}
use Rattle.law_sound_texts.proofs.TextUnits.{IsOfText, unit-is}
use Rattle.law_sound_texts.proofs.Claims.{ClaimsAreSame, claim_holds}
use Rattle.law_sound_texts.proofs.Maps.{FlatTextAllowsSame, map_holds}

module _ (text : Text) (sizes : Sizes) (families : AllZip (IsSameFamily (numbers_in text sizes)) (flatten text).families (design_of text).families) (found : FamiliesAreFound text)
    (allows : All (AllowsAsTheText text) (design_of_flat_text (flatten text)).defs) (faultless : IsFaultless (design_of_flat_text (flatten text))) (free : IsFreeWithout (flatten text) (design_of_flat_text (flatten text)).defs)
    (frees : FlatTextAllowsSame text sizes families found allows faultless free) (claims : ClaimsAreSame text sizes) (hold : UnitsHold (design_of_flat_text (flatten text))) (are : flat.AreSizes (names_of (design_of_flat_text (flatten text))) sizes)
    (run : List State) (ts : List FlatState) (states : AllZip (AreSameStates (design_of text).families) run ts) (is : IsRun (design_of text) sizes run) (is_flat : flat.IsRun (numbers_in text sizes) (bases (design_of_flat_text (flatten text))) ts) where
  typed : (run : List State) → IsRun (design_of text) sizes run → (s : State) → Has run s → IsTyped (design_of text) sizes s
  typed [] is s m = elim m [ ]
  typed (first_state ∷ run) is s m = All-each (IsTyped (design_of text) sizes) (first_state ∷ run) s is.0 m

  unit_holds : (u : ProofUnit) → IsOfText (design_of text) u → (vs : List Value) → Has (instances (design_of text) sizes u) vs → AtEachTime (Holds (design_of text) sizes u vs) None run
  unit_holds (map_of layer h) there vs i = let k = Has_get there in map_holds text sizes families found allows faultless free frees hold are run ts states (typed run is) is_flat layer h k.0 k.1 vs i
  unit_holds (claim_of c) there vs i = claim_holds text sizes claims (λ s. (to_flat text sizes families found s, flat_same text sizes families found s)) hold are run ts states is_flat c there vs i

  pub units_hold : All (λ unit. All (λ vs. AtEachTime (Holds (design_of text) sizes unit vs) None run) (instances (design_of text) sizes unit)) (units (design_of text))
  units_hold =
      Each-All (λ unit. All (λ vs. AtEachTime (Holds (design_of text) sizes unit vs) None run) (instances (design_of text) sizes unit)) (units (design_of text))
      (λ u m. Each-All (λ vs. AtEachTime (Holds (design_of text) sizes u vs) None run) (instances (design_of text) sizes u) (λ vs i. unit_holds u (unit-is (design_of text) u m) vs i))

-- in a sound script with all the units of a design each of them holds
pub script_units : (d : Design) (s : Script) → outline_of s ≡ outlined d → script.IsSoundScript s → UnitsHold d
script_units d s same sound unit h =
    let own : s.design ≡ d = ap (λ (o : Outline). o.design) same in
    let entry = Has-from_map (λ (entry : Entry). entry.unit) s.entries (subst (λ (o : Outline). Has o.units unit) (sym same) h) in
    subst (λ unit. HoldsAlways d (unit_in d unit)) (sym entry.2) (subst (λ d. HoldsAlways d (unit_in d entry.0.unit)) own (sound entry.0 entry.1))
