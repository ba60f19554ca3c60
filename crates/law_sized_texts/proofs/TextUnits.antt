-- Each unit of a design is one of the text.
use Rattle.std.proofs.Common.{◌≡◌, flat_map, Some, true, sym, subst, slice_get, All}
use Rattle.std.specs.List.{AllZip}
use Rattle.smv_core.specs.Values.{Sizes, number}
use Rattle.smv_core.specs.Types.{Family}
use Rattle.smv_core.specs.FlatOrder.{Claimed, TextDesign, design_of}
use Rattle.smv_core.specs.Outcome.{State, family_at}
use Rattle.smv_core.specs.Allowed.{said_in}
use Rattle.smv_core.specs.Sound as tree
use Rattle.smv_core.specs.Sound.{units}
use Rattle.smv_core.specs.declared.tree.Text.{Text}
use Rattle.smv_core.specs.declared.flat.Def.{Def}
use Rattle.smv_core.specs.declared.flat.Design.{Design as FlatDesign}
use Rattle.smv_core.specs.declared.flat.FlatText.{FlatText}
use Rattle.smv_core.specs.declared.flat.Unit.{Unit as DesignUnit}
use Rattle.smv_core.specs.declared.flat.Unit.TheVariants.{Map, Claim}
use Rattle.law_designs.specs.Flattening.{flatten}
use Rattle.law_designs.specs.Agreement.{IsSameFamily, numbers_in}
use Rattle.law_designs.specs.SameActs.{IsSameAct, layered_acts}
use Rattle.law_designs.specs.WholeText.{IsSameClaim, claims_of, claims_met}
use Rattle.law_designs.specs.Definitions.{Head, def_of, design_of_flat_text, first_heads}
use Rattle.law_designs.specs.Laws.{AllowsAsTheText}
use Rattle.law_obligations.specs.Sets.{Has}
use Rattle.law_obligations.specs.Units.{is_refinement, units_of}
use Rattle.law_obligations.proofs.Members.{Has-from_map}
use Rattle.law_obligations.proofs.OneOfEach.{get_Has, Has_get}
use Rattle.law_flat_kinds.specs.FamiliesFound.{FamiliesAreFound}
use Rattle.law_sound_texts.specs.TextExtension.{LayersAreSame}
use Rattle.law_sound_texts.specs.Exact.{LeftSidesAreExact}
use Rattle.law_sound_texts.proofs.Claims.{ClaimsAreSame}
use Rattle.law_sound_texts.proofs.DesignMaps.{ItsMap, its_map}
use Rattle.law_sound_texts.proofs.Faultless.{IsFaultless}
use Rattle.law_sound_texts.proofs.Texts.{zip_left, to_flat, flat_same}
use Rattle.law_sound_texts.proofs.TextUnits.{claim-there}
use Rattle.law_sound_texts.proofs.Units.{IsOfDesign, unit-of}
use Rattle.law_sized_texts.specs.Texts.{IsSameUnit, same_map, same_claim}

module _ (text : Text) (sizes : Sizes) (families : AllZip (IsSameFamily (numbers_in text sizes)) (flatten text).families (design_of text).families) (found : FamiliesAreFound text)
    (allows : All (AllowsAsTheText text) (design_of_flat_text (flatten text)).defs) (faultless : IsFaultless (design_of_flat_text (flatten text))) (layers : LayersAreSame text)
    (acts : AllZip (IsSameAct text) (layered_acts (flatten text).items) (flat_map said_in (design_of text).met)) (exact : LeftSidesAreExact (flatten text)) (claims : ClaimsAreSame text sizes) where
  abbrev d : TextDesign
  d = design_of text

  abbrev flat_text : FlatText
  flat_text = flatten text

  abbrev f : FlatDesign
  f = design_of_flat_text (flatten text)

  abbrev Its : Def → Type 0
  Its def = ItsMap text sizes families found allows faultless layers acts exact def

  -- the map of each definition that is a refinement
  map-of : (def : Def) → Has f.defs def → is_refinement f def.family def.layer ≡ true → Its def
  map-of def m is =
      let r : (head : Head) × Has (first_heads flat_text) head × (def ≡ def_of flat_text head) = Has-from_map (def_of flat_text) (first_heads flat_text) m in
      subst Its (sym r.2) (its_map text sizes families found allows faultless layers acts exact r.0 r.1 (subst (λ (def : Def). is_refinement f def.family def.layer ≡ true) r.2 is))

  found_in : (h : Family) → Has d.families h → family_at d.families h.path ≡ Some h
  found_in h m = let k = Has_get m in (found k.0 h k.1).0

  -- the unit of the text
  pub its-unit : (unit : DesignUnit) → Has (units_of f) unit → (u : tree.ProofUnit) × Has (units d) u × IsSameUnit text u unit
  its-unit unit m = by_unit unit (unit-of f unit m)
    where
      by_unit : (unit : DesignUnit) → IsOfDesign f unit → (u : tree.ProofUnit) × Has (units d) u × IsSameUnit text u unit
      by_unit (Map k) (def, at, refines) =
          let r : Its def = map-of def (get_Has f.defs k def at) refines in
          (tree.map_of r.2.0 r.0, r.2.2, same_map r.2.0 r.0 k def at r.1 r.2.1)
      by_unit (Claim k) (fc, at) =
          let s : State = λ path vs. number 0 in
          let c : (c : Claimed) × (slice_get (claims_met d.met) k ≡ Some c) × IsSameClaim text sizes s (to_flat text sizes families found s) fc c =
          zip_left (IsSameClaim text sizes s (to_flat text sizes families found s)) (claims_of flat_text.items) (claims_met d.met) (claims s (to_flat text sizes families found s) (flat_same text sizes families found s)) k fc at in
          (tree.claim_of c.0, claim-there d found_in c.0 (get_Has (claims_met d.met) k c.0 c.1), same_claim c.0 k c.1)
