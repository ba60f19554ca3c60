-- What a confirmation of a text's unit at given sizes is, and what it says of the runs of the text.
use Rattle.std.specs.Prelude.{◌≡◌, ◌≤◌, ℕ, List, find, Option, Some, None, bytes_eq}
use Rattle.smv_core.specs.Values.{Value}
use Rattle.smv_core.specs.FlatOrder.{design_of}
use Rattle.smv_core.specs.Outcome.{State}
use Rattle.smv_core.specs.Sound.{ProofUnit, AtEachTime, Holds, IsRun, instances, units}
use Rattle.smv_core.specs.declared.fault.Fault.{Fault}
use Rattle.smv_core.specs.declared.tree.Text.{Text}
use Rattle.smv_core.specs.declared.flat.Case.{Case as CaseData}
use Rattle.smv_core.specs.declared.flat.Element.{Element}
use Rattle.smv_core.specs.declared.flat.Design.{Design}
use Rattle.smv_core.specs.declared.flat.Unit.{Unit as DesignUnit}
use Rattle.smv_bits.specs.declared.Bits.{Bits}
use Rattle.smv_problem.specs.declared.problem.AbsState.{AbsState as StateData}
use Rattle.smv_problem.specs.declared.report.Verdict.{Verdict}
use Rattle.smv_problem.specs.declared.report.Verdict.TheVariants.{True, False}
use Rattle.law_obligations.specs.Sets.{Has}
use Rattle.law_obligations.specs.Outlines.{unit_in}
use Rattle.law_obligations.specs.Units.{units_of}
use Rattle.law_splits.specs.Leaves.{name_of}
use Rattle.law_valid_texts.specs.Joined.{flat_design}
use Rattle.law_valid_texts.specs.Reports.{IsValid}
use Rattle.law_concrete.specs.Sizes.{sizes_at, sizes_fault}
use Rattle.law_sized_texts.specs.Texts.{IsSameUnit}
use Rattle.law_confirmed.specs.Confirmed.{IsToldAt, IsShownReal}

-- the first unit of this name
abbrev pub unit_called : Design → List ℕ → Option DesignUnit
unit_called d name = find (λ unit. bytes_eq (name_of d (unit_in d unit)) name) (units_of d)

-- sizes that a command may give
abbrev pub ArePositive : List ℕ → Type 0
ArePositive given = (k : ℕ) → Has given k → 1 ≤ k

-- what is told of the unit of this name of a valid text, over bits that stand so, at sizes at which it is not refused
pub record IsConfirmed (text name given : List ℕ) (bits : Bits) (nodes steps : ℕ) (verdict : Verdict) : Type 0 where
  pub tree : Text
  pub is_valid : IsValid text tree
  pub unit : DesignUnit
  pub is_called : unit_called (flat_design tree) name ≡ Some unit
  pub is_taken : sizes_fault (flat_design tree) unit given ≡ None
  pub is_told : IsToldAt (flat_design tree) (sizes_at (flat_design tree).sets given) unit bits nodes steps verdict

-- the fault of a unit of a valid text by its number and its offset: that no unit has the name, or that of the sizes
pub data IsUnitFault (text name given : List ℕ) : ℕ → ℕ → Type 0 where
  unnamed : (tree : Text) → IsValid text tree → unit_called (flat_design tree) name ≡ None → IsUnitFault text name given 26 0
  unsized : (tree : Text) (unit : DesignUnit) (fault : Fault) → IsValid text tree → unit_called (flat_design tree) name ≡ Some unit → sizes_fault (flat_design tree) unit given ≡ Some fault →
      IsUnitFault text name given fault.number fault.at

-- where a unit is true at these sizes, no run of them breaks an instance of it
pub record HoldsAtGiven (tree : Text) (name given : List ℕ) : Type 0 where
  pub unit : DesignUnit
  pub is_called : unit_called (flat_design tree) name ≡ Some unit
  pub u : ProofUnit
  pub is_unit : Has (units (design_of tree)) u
  pub is_same : IsSameUnit tree u unit
  pub holds : (run : List State) → IsRun (design_of tree) (sizes_at (flat_design tree).sets given) run → (vs : List Value) → Has (instances (design_of tree) (sizes_at (flat_design tree).sets given) u) vs →
      AtEachTime (Holds (design_of tree) (sizes_at (flat_design tree).sets given) u vs) None run

abbrev pub ConfirmedTrueHolds : Type 0
ConfirmedTrueHolds = (text name given : List ℕ) → ArePositive given → (bits : Bits) (nodes steps : ℕ) → IsConfirmed text name given bits nodes steps True → (tree : Text) × IsValid text tree × HoldsAtGiven tree name given

-- where it is false, what is shown is the part of a run of them
pub record IsRealAtGiven (tree : Text) (name given : List ℕ) (case : CaseData) (elements : List Element) (path : List StateData) : Type 0 where
  pub unit : DesignUnit
  pub is_called : unit_called (flat_design tree) name ≡ Some unit
  pub u : ProofUnit
  pub is_unit : Has (units (design_of tree)) u
  pub is_same : IsSameUnit tree u unit
  pub is_real : IsShownReal tree (sizes_at (flat_design tree).sets given) u unit case elements path

abbrev pub ConfirmedFalseIsReal : Type 0
ConfirmedFalseIsReal = (text name given : List ℕ) → ArePositive given → (bits : Bits) (nodes steps : ℕ) (case : CaseData) (elements : List Element) (path : List StateData) →
    IsConfirmed text name given bits nodes steps (False case elements path) → (tree : Text) × IsValid text tree × IsRealAtGiven tree name given case elements path
