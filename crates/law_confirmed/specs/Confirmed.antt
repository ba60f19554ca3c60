-- What is told of a unit at given sizes, and what it says of the runs of the text.
use Rattle.std.specs.Prelude.{◌≡◌, ℕ, List, None, map}
use Rattle.smv_core.specs.Values.{Value, Sizes}
use Rattle.smv_core.specs.FlatOrder.{design_of}
use Rattle.smv_core.specs.Outcome.{State}
use Rattle.smv_core.specs.Sound.{ProofUnit, AtEachTime, AreSizes, Holds, IsRun, instances}
use Rattle.smv_core.specs.declared.tree.Text.{Text}
use Rattle.smv_bits.specs.declared.Bits.{Bits}
use Rattle.smv_core.specs.declared.flat.Case.{Case as CaseData}
use Rattle.smv_core.specs.declared.flat.Element.{Element}
use Rattle.smv_core.specs.declared.flat.Design.{Design}
use Rattle.smv_core.specs.declared.flat.Unit.{Unit as DesignUnit}
use Rattle.law_designs.specs.Flattening.{flatten}
use Rattle.law_designs.specs.Definitions.{design_of_flat_text}
use Rattle.law_obligations.specs.Sets.{Has}
use Rattle.law_obligations.specs.May.{AbsState}
use Rattle.smv_problem.specs.declared.problem.AbsState.{AbsState as StateData}
use Rattle.smv_problem.specs.declared.report.Verdict.{Verdict}
use Rattle.smv_problem.specs.declared.report.Verdict.TheVariants.{True, False}
use Rattle.smv_problem.specs.Written.{written_element, written_state}
use Rattle.law_reports.specs.Told.{IsToldBy}
use Rattle.law_concrete.specs.Concrete.{concrete_cases, concrete_places, concrete_cone, concrete_case}
use Rattle.law_sized_texts.specs.Texts.{IsRightText, IsSameUnit, IsRealInText}

-- the verdict of a unit at given sizes over bits that stand so, by its cases in order up to the first that is not true
abbrev pub IsToldAt : Design → Sizes → DesignUnit → Bits → ℕ → ℕ → Verdict → Type 0
IsToldAt d sizes unit bits nodes steps verdict = IsToldBy (concrete_case d sizes unit) bits nodes steps (concrete_cases d sizes unit) verdict

-- where the unit is true at these sizes, each of its instances holds at each time of each run of these sizes
abbrev pub TrueHolds : Type 0
TrueHolds = (text : Text) → IsRightText text → (u : ProofUnit) (unit : DesignUnit) → IsSameUnit text u unit → (sizes : Sizes) → AreSizes text sizes → (bits : Bits) (nodes steps : ℕ) → IsToldAt (design_of_flat_text (flatten text)) sizes unit bits nodes steps True →
    (run : List State) → IsRun (design_of text) sizes run → (vs : List Value) → Has (instances (design_of text) sizes u) vs → AtEachTime (Holds (design_of text) sizes u vs) None run

-- what is shown where it is false: abstract states of the case, written as data, that are the part, on these elements, of a run of these sizes in which the case's instance fails at the last time and which no shorter run
-- breaks
pub record IsShownReal (text : Text) (sizes : Sizes) (u : ProofUnit) (unit : DesignUnit) (case : CaseData) (elements : List Element) (path : List StateData) : Type 0 where
  pub is_case : Has (concrete_cases (design_of_flat_text (flatten text)) sizes unit) case.classes
  pub states : List AbsState
  pub elements_are : elements ≡ map written_element (concrete_cone (design_of_flat_text (flatten text)) sizes unit (concrete_places (design_of_flat_text (flatten text)) sizes unit case.classes))
  pub path_is : path ≡ map (written_state (concrete_case (design_of_flat_text (flatten text)) sizes unit case.classes)) states
  pub is_real : IsRealInText text sizes u unit case.classes states

abbrev pub FalseIsReal : Type 0
FalseIsReal = (text : Text) → IsRightText text → (u : ProofUnit) (unit : DesignUnit) → IsSameUnit text u unit → (sizes : Sizes) → AreSizes text sizes → (bits : Bits) (nodes steps : ℕ) (case : CaseData) (elements : List Element) (path : List StateData) →
    IsToldAt (design_of_flat_text (flatten text)) sizes unit bits nodes steps (False case elements path) → IsShownReal text sizes u unit case elements path
