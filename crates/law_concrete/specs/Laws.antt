-- The laws: what the crate's public functions say.
use Rattle.std.specs.Prelude.{◌≡◌, ◌≤◌, ℕ, List, map, length, true, IfSome}
use Rattle.std.specs.List.{AllZip}
use Rattle.smv_core.specs.Values.{Value, Sizes}
use Rattle.smv_core.specs.FlatMeaning.{FlatState}
use Rattle.smv_core.specs.declared.flat.Design.{Design}
use Rattle.smv_core.specs.declared.flat.SetInfo.{SetInfo}
use Rattle.smv_core.specs.declared.flat.Unit.{Unit}
use Rattle.smv_core.specs.declared.flat.Class.{Class}
use Rattle.law_obligations.specs.Sets.{Has}
use Rattle.law_obligations.specs.Places.{named}
use Rattle.law_obligations.specs.May.{AbsState}
use Rattle.law_obligations.specs.Pictures.{IsAbsState}
use Rattle.law_obligations.specs.Circular.{is_violating}
use Rattle.law_obligations.specs.Obligations.{obligation}
use Rattle.law_obligations.specs.Covers.{AreApart}
use Rattle.law_obligations.specs.Readings.{state_bits}
use Rattle.law_obligations.specs.Soundness.{AreSizes, params_of, values_over}
use Rattle.law_obligations.specs.Outlines.{names_of, unit_in}
use Rattle.law_exact.specs.Exact.{Shows}
use Rattle.law_concrete.specs.Concrete.{sized, concrete_cases, concrete_places, problem_at, concrete, concrete_case}
use Rattle.smv_problem.specs.WellFormed.{IsWellFormed}
use Rattle.law_problems.specs.Parts.{IsFitDesign}
use Rattle.law_concrete.specs.Runs.{Breaks, IsExact, HoldsAtSizes}
use Rattle.law_sound_texts.specs.Extension.{ElementsCanBeChosen}
use Rattle.law_concrete.specs.Sizes.{sizes_at, undeclared}

-- a violating path of the problem
pub record Violates (d : Design) (sizes : Sizes) (unit : Unit) (values : List Value) (path : List AbsState) : Type 0 where
  pub are_states : (a : AbsState) → Has path a → IsAbsState (problem_at d sizes unit (map named values)).world (problem_at d sizes unit (map named values)).kept a
  pub is_violating : is_violating (obligation (problem_at d sizes unit (map named values))) path ≡ true

-- each state of a path shows that of a run
abbrev pub AreShown : Design → Sizes → Unit → List Value → List AbsState → List FlatState → Type 0
AreShown d sizes unit values path run = AllZip (λ a s. Shows (problem_at d sizes unit (map named values)).kept a s) path run

-- a run that breaks an instance is shown by a violating path of its problem
abbrev pub RunsAreShown : Type 0
RunsAreShown = (d : Design) (sizes : Sizes) → IsExact d sizes → (unit : Unit) (values : List Value) → Has (values_over (sized d sizes) (params_of (sized d sizes) (unit_in d unit))) values →
    (run : List FlatState) → Breaks d sizes unit values run → (path : List AbsState) × AreShown d sizes unit values path run × Violates d sizes unit values path

-- and each violating path shows a run that breaks the instance
abbrev pub PathsAreOfRuns : Type 0
PathsAreOfRuns = (d : Design) (sizes : Sizes) → IsExact d sizes → ElementsCanBeChosen d → (unit : Unit) (values : List Value) → Has (values_over (sized d sizes) (params_of (sized d sizes) (unit_in d unit))) values →
    (path : List AbsState) → Violates d sizes unit values path → (run : List FlatState) × AreShown d sizes unit values path run × Breaks d sizes unit values run

-- ---- cases

-- a violating path of a case
pub record IsViolatingCase (d : Design) (sizes : Sizes) (unit : Unit) (classes : List Class) (path : List AbsState) : Type 0 where
  pub are_states : (a : AbsState) → Has path a → IsAbsState (concrete d sizes unit classes).world (concrete d sizes unit classes).kept a
  pub is_violating : is_violating (obligation (concrete d sizes unit classes)) path ≡ true

-- no case has one
abbrev pub HasNoViolatingCase : Design → Sizes → Unit → Type 0
HasNoViolatingCase d sizes unit = (classes : List Class) → Has (concrete_cases d sizes unit) classes → (path : List AbsState) → IsViolatingCase d sizes unit classes path → ⊥

-- where no case has a violating path every instance holds at every time of every run of these sizes, and only there
abbrev pub NoPathIsSound : Type 0
NoPathIsSound = (d : Design) (sizes : Sizes) → IsExact d sizes → (unit : Unit) → HasNoViolatingCase d sizes unit → HoldsAtSizes d sizes unit

abbrev pub SoundHasNoPath : Type 0
SoundHasNoPath = (d : Design) (sizes : Sizes) → IsExact d sizes → ElementsCanBeChosen d → (unit : Unit) → HoldsAtSizes d sizes unit → HasNoViolatingCase d sizes unit

-- the instance of a case, and a run of which the path is the part on the elements of the case: there the instance fails at the last time, and no shorter run breaks it
pub record IsReal (d : Design) (sizes : Sizes) (unit : Unit) (classes : List Class) (path : List AbsState) : Type 0 where
  pub values : List Value
  pub are_values : Has (values_over (sized d sizes) (params_of (sized d sizes) (unit_in d unit))) values
  pub stand : concrete_places d sizes unit classes ≡ map named values
  pub run : List FlatState
  pub shows : AllZip (λ a s. Shows (concrete d sizes unit classes).kept a s) path run
  pub breaks : Breaks d sizes unit values run
  pub is_shortest : (other : List FlatState) → Breaks d sizes unit values other → length run ≤ length other

-- so it is for each shortest violating path of a case
abbrev pub ShortestPathsAreReal : Type 0
ShortestPathsAreReal = (d : Design) (sizes : Sizes) → IsExact d sizes → ElementsCanBeChosen d → (unit : Unit) (classes : List Class) → Has (concrete_cases d sizes unit) classes →
    (path : List AbsState) → IsViolatingCase d sizes unit classes path → ((other : List AbsState) → IsViolatingCase d sizes unit classes other → length path ≤ length other) → IsReal d sizes unit classes path

-- ---- sizes and problems

-- as many sizes of at least 1 as there are set types without one are sizes of the design
abbrev pub GivenAreSizes : Type 0
GivenAreSizes = (d : Design) → AreApart d.sets → ((info : SetInfo) → Has d.sets info → IfSome info.size (λ n. 1 ≤ n)) → (given : List ℕ) → ((k : ℕ) → Has given k → 1 ≤ k) → length given ≡ undeclared d.sets →
    AreSizes (names_of d) (sizes_at d.sets given)

-- the problem of a case at sizes of at most 256 is well formed
abbrev pub ConcreteProblemsAreWellFormed : Type 0
ConcreteProblemsAreWellFormed = (d : Design) (sizes : Sizes) → IsExact d sizes → IsFitDesign d → AreApart d.sets → ((info : SetInfo) → Has d.sets info → sizes info.name ≤ 256) →
    (unit : Unit) (classes : List Class) → Has (concrete_cases d sizes unit) classes → state_bits (concrete_case d sizes unit classes) ≤ 1024 → IsWellFormed (concrete_case d sizes unit classes)
