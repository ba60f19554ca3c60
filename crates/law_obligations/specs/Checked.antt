-- What the passes before the search give of a script.
use Rattle.std.specs.Prelude.{◌≡◌, ◌≤◌, ℕ, List, [], ◌++◌, map, length, get_or, slice_get, Some, None, true, false}
use Rattle.smv_core.specs.Values.{Name, Value, Sizes}
use Rattle.smv_core.specs.FlatMeaning.{Numbered, FlatState}
use Rattle.smv_core.specs.declared.flat.Design.{Design}
use Rattle.smv_core.specs.declared.flat.Simple.{Simple}
use Rattle.smv_core.specs.declared.flat.Simple.TheVariants.{Range, Enum, Set}
use Rattle.smv_core.specs.declared.flat.SetInfo.{SetInfo}
use Rattle.smv_core.specs.declared.flat.Family.{Family}
use Rattle.smv_core.specs.declared.flat.Def.{Def}
use Rattle.smv_core.specs.declared.flat.Claim.{Claim}
use Rattle.smv_core.specs.declared.flat.Param.{Param}
use Rattle.smv_core.specs.declared.flat.Class.{Class}
use Rattle.law_obligations.specs.Sets.{Has}
use Rattle.law_obligations.specs.Covers.{AreApart, IsIndexType}
use Rattle.law_obligations.specs.Guards.{AreGuards}
use Rattle.law_obligations.specs.Whole.{IsWhole}
use Rattle.law_obligations.specs.May.{AbsState}
use Rattle.law_obligations.specs.Pictures.{IsAbsState}
use Rattle.law_obligations.specs.Circular.{always, is_violating}
use Rattle.law_obligations.specs.Obligations.{AbstractProblem, obligation}
use Rattle.law_obligations.specs.LeafCases.{leaf_cases}
use Rattle.law_obligations.specs.Soundness.{FlatUnit, at_sizes, AreSizes, params_of, values_over, is_held, IsRun, IsDefinition}
use Rattle.law_obligations.specs.Outlines.{Entry, Script, outline_of, names_of, bases, unit_in}
use Rattle.law_obligations.specs.Times.{graph, timed}
use Rattle.law_obligations.specs.Problems.{problem_of, plan_of}

-- a type that is not empty: a range from low to high, an enumeration with a constant, or a set type of the design
abbrev pub IsFilled : Design → Simple → Type 0
IsFilled d (Range low high) = low ≤ high
IsFilled d (Enum list) = (name : Name) × Has (get_or d.enums list []) name
IsFilled d (Set set) = (info : SetInfo) × (slice_get d.sets set ≡ Some info)

module _ (s : Script) where
  -- the parameters of a leaf are the unit's and then those that its splits add, over ranges and set types that are not empty, and its guards are of those that are added
  pub record IsSplit (entry : Entry) : Type 0 where
    pub added : List Simple
    pub are_params : map (λ p. p.over) entry.leaf.params ≡ params_of (names_of s.design) (unit_in s.design entry.unit) ++ added
    pub are_index_types : (p : Param) → Has entry.leaf.params p → IsIndexType p.over
    pub are_filled : (p : Param) → Has entry.leaf.params p → IsFilled s.design p.over
    pub are_guards : AreGuards (length (params_of (names_of s.design) (unit_in s.design entry.unit))) (map (λ p. p.over) entry.leaf.params) entry.leaf.guards

  -- Names: no two set types have one name. Kinds: the types are not empty, and claims read whole elements. Single assignment, and kinds again: each definition
  -- is one of a family, no two of its assignments conflict, and it reads whole elements. Splits: as above.
  pub record IsChecked : Type 0 where
    pub are_apart : AreApart s.design.sets
    pub are_filled : (f : Family) → Has s.design.families f → IsFilled s.design f.value
    pub are_whole : (claim : Claim) → Has s.design.claims claim → IsWhole s.design.families claim.body
    pub are_definitions : (def : Def) → Has s.design.defs def → IsDefinition (plan_of s) def
    pub are_split : (entry : Entry) → Has s.entries entry → IsSplit entry

-- no case of any leaf has a violating path of abstract states
abbrev pub IsProved : Script → Type 0
IsProved s = (u : ℕ) (entry : Entry) → slice_get s.entries u ≡ Some entry → (classes : List Class) →
    Has (leaf_cases s.design.sets entry.leaf.params entry.choice.keeps) classes → HasNone (problem_of (outline_of s) entry (timed (outline_of s) (graph s) u entry) classes)
  where
    HasNone : AbstractProblem → Type 0
    HasNone p = (path : List AbsState) → ((a : AbsState) → Has path a → IsAbsState p.world p.kept a) → is_violating (obligation p) path ≡ false

-- every instance of a unit holds at every time of every run, for all sizes
abbrev pub HoldsAlways : Design → FlatUnit → Type 0
HoldsAlways d unit = (sizes : Sizes) → AreSizes (names_of d) sizes → (run : List FlatState) → IsRun (at_sizes (names_of d) sizes) (bases d) run →
    Instances (at_sizes (names_of d) sizes) run
  where
    Instances : Numbered → List FlatState → Type 0
    Instances n run = (values : List Value) → Has (values_over n (params_of n unit)) values → always (is_held n unit values) None run ≡ true

-- so does each unit of a script
abbrev pub IsSoundScript : Script → Type 0
IsSoundScript s = (entry : Entry) → Has s.entries entry → HoldsAlways s.design (unit_in s.design entry.unit)
