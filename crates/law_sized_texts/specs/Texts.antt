-- Units of a text at given sizes: which unit of its design each is, and what the cases of that unit say of the runs of the text.
use Rattle.std.specs.Prelude.{◌≡◌, ◌≤◌, ℕ, List, length, slice_get, Some, None}
use Rattle.std.specs.List.{AllZip}
use Rattle.smv_core.specs.Values.{Name, Value, Sizes}
use Rattle.smv_core.specs.Types.{Family}
use Rattle.smv_core.specs.FlatOrder.{Claimed, design_of}
use Rattle.smv_core.specs.Outcome.{State}
use Rattle.smv_core.specs.Sound.{ProofUnit, map_of, claim_of, AtEachTime, AreSizes, Holds, IsRun, instances, units}
use Rattle.smv_core.specs.Violating.{AtLastTime}
use Rattle.smv_core.specs.FlatMeaning.{FlatState}
use Rattle.smv_core.specs.declared.tree.Text.{Text}
use Rattle.smv_core.specs.declared.flat.Def.{Def}
use Rattle.smv_core.specs.declared.flat.Class.{Class}
use Rattle.smv_core.specs.declared.flat.Unit.{Unit as DesignUnit}
use Rattle.smv_core.specs.declared.flat.Unit.TheVariants.{Map, Claim}
use Rattle.law_designs.specs.Flattening.{flatten, layer_number}
use Rattle.law_designs.specs.WholeText.{claims_met}
use Rattle.law_designs.specs.WellKinded.{IsWellKinded}
use Rattle.law_designs.specs.Agreement.{AreSameStates}
use Rattle.law_designs.specs.Definitions.{design_of_flat_text}
use Rattle.law_designs.specs.SingleFaults.{first_fault_of_single}
use Rattle.law_designs.specs.SetFaults.{first_fault_of_sets}
use Rattle.law_designs.specs.FirstFault.{first_fault_of_design}
use Rattle.law_obligations.specs.Sets.{Has}
use Rattle.law_obligations.specs.May.{AbsState}
use Rattle.law_obligations.specs.Units.{units_of}
use Rattle.law_exact.specs.Exact.{Shows}
use Rattle.law_concrete.specs.Concrete.{concrete_cases, concrete}
use Rattle.law_concrete.specs.Laws.{HasNoViolatingCase, IsViolatingCase}

-- some tokens spell the text, and it has no fault of names, size, kinds, single assignment, loops and layers, and set types
pub record IsRightText (text : Text) : Type 0 where
  pub kinds : IsWellKinded text
  pub single : first_fault_of_single (flatten text) ≡ None
  pub sets : first_fault_of_sets (flatten text) ≡ None
  pub design : first_fault_of_design (design_of_flat_text (flatten text)) ≡ None

-- a unit of a text and one of its design are one: a map of a family in a layer, or the claim at a place
pub data IsSameUnit (text : Text) : ProofUnit → DesignUnit → Type 0 where
  same_map : (layer : Name) (h : Family) (k : ℕ) (def : Def) → slice_get (design_of_flat_text (flatten text)).defs k ≡ Some def → slice_get (design_of text).families def.family ≡ Some h →
      Some (layer_number (flatten text).layers layer) ≡ def.layer → IsSameUnit text (map_of layer h) (Map k)
  same_claim : (c : Claimed) (k : ℕ) → slice_get (claims_met (design_of text).met) k ≡ Some c → IsSameUnit text (claim_of c) (Claim k)

-- where no case of the unit has a violating path, each of its instances holds at each time of each run of these sizes
abbrev pub HoldsInText : Type 0
HoldsInText = (text : Text) → IsRightText text → (u : ProofUnit) (unit : DesignUnit) → IsSameUnit text u unit → (sizes : Sizes) → AreSizes text sizes → HasNoViolatingCase (design_of_flat_text (flatten text)) sizes unit →
    (run : List State) → IsRun (design_of text) sizes run → (vs : List Value) → Has (instances (design_of text) sizes u) vs → AtEachTime (Holds (design_of text) sizes u vs) None run

-- a run of the text in which an instance of the unit fails at the last time
pub record BreaksText (text : Text) (sizes : Sizes) (u : ProofUnit) (vs : List Value) (run : List State) : Type 0 where
  pub is_run : IsRun (design_of text) sizes run
  pub fails : AtLastTime (λ before now. ¬ Holds (design_of text) sizes u vs before now) None run

-- of which a path of a case is the part on the elements of the case, and which no shorter run breaks
pub record IsRealInText (text : Text) (sizes : Sizes) (u : ProofUnit) (unit : DesignUnit) (classes : List Class) (path : List AbsState) : Type 0 where
  pub values : List Value
  pub are_values : Has (instances (design_of text) sizes u) values
  pub flat_run : List FlatState
  pub shows : AllZip (λ a s. Shows (concrete (design_of_flat_text (flatten text)) sizes unit classes).kept a s) path flat_run
  pub run : List State
  pub are_same : AllZip (AreSameStates (design_of text).families) run flat_run
  pub breaks : BreaksText text sizes u values run
  pub is_shortest : (other : List State) → BreaksText text sizes u values other → length run ≤ length other

-- so it is for each shortest violating path of a case
abbrev pub ShortestPathsAreRealInText : Type 0
ShortestPathsAreRealInText = (text : Text) → IsRightText text → (u : ProofUnit) (unit : DesignUnit) → IsSameUnit text u unit → (sizes : Sizes) → AreSizes text sizes →
    (classes : List Class) → Has (concrete_cases (design_of_flat_text (flatten text)) sizes unit) classes → (path : List AbsState) → IsViolatingCase (design_of_flat_text (flatten text)) sizes unit classes path →
    ((other : List AbsState) → IsViolatingCase (design_of_flat_text (flatten text)) sizes unit classes other → length path ≤ length other) → IsRealInText text sizes u unit classes path

-- each unit of the design of a text is one of the text
abbrev pub UnitsAreOfTexts : Type 0
UnitsAreOfTexts = (text : Text) → IsRightText text → (unit : DesignUnit) → Has (units_of (design_of_flat_text (flatten text))) unit → (u : ProofUnit) × Has (units (design_of text)) u × IsSameUnit text u unit
