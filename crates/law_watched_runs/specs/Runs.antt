-- A claim whose formula is watched by monitors, along a run.
use Rattle.std.specs.Prelude.{◌≡◌, List, [], ◌∷◌, ◌++◌, map, Option, Some, None, Bool, true, Contains}
use Rattle.std.specs.List.{AllByRecursion}
use Rattle.smv_core.specs.Values.{Name, Value, number, Sizes, range, truth}
use Rattle.smv_core.specs.Types.{Family}
use Rattle.smv_core.specs.FlatOrder.{TextDesign, Claimed}
use Rattle.smv_core.specs.Outcome.{State, Scene, Bindings, outcome, is_true}
use Rattle.smv_core.specs.Allowed.{allowed_by_base, scene_at}
use Rattle.smv_core.specs.Sound.{claim_of as claim_unit, bound, indexes_in, AtEachTime, Holds, IsRun}
use Rattle.smv_core.specs.declared.tree.Expr.{Expr}
use Rattle.law_formulas.specs.Formulas.{Formula, AlwaysHolds}
use Rattle.law_formulas.specs.Steps.{none_of, HasNames, stepped}
use Rattle.law_formulas.specs.Monitors.{outset, monitor, definitions, claim_of}
use Rattle.law_formulas.specs.Laws.{bits_by}

-- at these values of its parameters
module _ (d : TextDesign) (sizes : Sizes) (c : Claimed) (vs : List Value) where
  -- where the claim stands
  abbrev pub here : Scene
  here = scene_at d sizes c.instance

  -- the values of its parameters
  abbrev pub bindings : Bindings
  bindings = bound c.params vs []

  -- their names
  abbrev pub vars : List Name
  vars = map (λ param. param.0) c.params

  -- the path of a monitor in its instance
  abbrev pub path_to : Name → List Name
  path_to m = c.instance ++ m ∷ []

  -- the monitor's element is a bit; its base definition is 0 at first, and then what the expression allows in the state before
  pub record IsDefined (m : Name) (e : Expr) : Type 0 where
    pub family : Family
    pub in_design : Contains d.families family
    pub path : family.path ≡ path_to m
    pub value : family.value ≡ range 0 1
    pub in_family : Contains (indexes_in sizes family) vs
    pub first : (now : State) → allowed_by_base d sizes family (record { path = family.path; indexes = vs }) None now ≡ number 0 ∷ []
    pub later : (before now : State) → allowed_by_base d sizes family (record { path = family.path; indexes = vs }) (Some before) now ≡ bits_by here bindings before vars e

  -- the claim is that of the formula, it reads its monitors' elements, and these are so defined
  pub record IsWatched (f : Formula) (names : List Name) : Type 0 where
    pub named : HasNames f names
    pub body : c.body ≡ claim_of vars names outset f
    pub reads : (s : State) → AllByRecursion (λ m. outcome here s (monitor vars m) bindings ≡ Some (s (path_to m) vs)) names
    pub defined : AllByRecursion (λ entry. IsDefined entry.0 entry.1) (definitions vars names outset f)

  -- what the monitors keep in mind in a state
  abbrev pub marks_in : State → List Name → List Bool
  marks_in s names = map (λ m. is_true (truth (Some (s (path_to m) vs)))) names

  -- the monitors keep in mind all that is to be kept
  abbrev pub IsExact : Formula → List Name → Option State → State → Type 0
  IsExact f names None s = marks_in s names ≡ none_of f
  IsExact f names (Some before) s = marks_in s names ≡ stepped here bindings f true (marks_in before names) before

-- where the formula holds at each time of a run, the claim does, be the monitors' values as they may
abbrev pub FormulasGiveClaims : Type 0
FormulasGiveClaims =
    (d : TextDesign) (sizes : Sizes) (c : Claimed) (vs : List Value) (f : Formula) (names : List Name) → IsWatched d sizes c vs f names → (run : List State) → IsRun d sizes run →
    AlwaysHolds (here d sizes c vs) (bindings d sizes c vs) f run → AtEachTime (Holds d sizes (claim_unit c) vs) None run

-- where the claim holds at each time of a run whose monitors keep all in mind, the formula does
abbrev pub ClaimsGiveFormulas : Type 0
ClaimsGiveFormulas =
    (d : TextDesign) (sizes : Sizes) (c : Claimed) (vs : List Value) (f : Formula) (names : List Name) → IsWatched d sizes c vs f names → (run : List State) → IsRun d sizes run →
    AtEachTime (IsExact d sizes c vs f names) None run → AtEachTime (Holds d sizes (claim_unit c) vs) None run → AlwaysHolds (here d sizes c vs) (bindings d sizes c vs) f run
