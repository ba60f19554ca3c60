-- The lines of `list`: the units of a plan in flat order, each with what is proved of it and what its proof uses.
use Rattle.std.specs.Prelude.{◌≡◌, ℕ, ◌+◌, List, [], ◌∷◌, ◌++◌, codes, length, slice_get, Option, Some, None, Bool, true, false}
use Rattle.std.specs.Fmt.{decimal}
use Rattle.smv_core.specs.Values.{Name}
use Rattle.smv_core.specs.declared.flat.Design.{Design}
use Rattle.smv_core.specs.declared.flat.Param.{Param}
use Rattle.smv_core.specs.declared.flat.Unit.{Unit}
use Rattle.smv_core.specs.declared.flat.Leaf.{Leaf}
use Rattle.smv_core.specs.declared.flat.Choice.{Choice}
use Rattle.smv_core.specs.declared.flat.Pick.{Pick}
use Rattle.smv_core.specs.declared.flat.Assumed.{Assumed}
use Rattle.smv_core.specs.declared.flat.Keep.{Keep}
use Rattle.smv_core.specs.declared.flat.Timing.{Timing}
use Rattle.smv_core.specs.declared.flat.Timed.{Timed}
use Rattle.smv_problem.specs.declared.report.Plan.{Plan}
use Rattle.law_obligations.specs.LeafCases.{leaf_cases}
use Rattle.law_obligations.specs.Outlines.{unit_in}
use Rattle.law_splits.specs.Leaves.{in_layer, name_of, name_of_family}
use Rattle.law_reports.specs.Lines.{line}
use Rattle.smv_cases.specs.Faults.{place_of_unit, cases_fault}
use Rattle.smv_look_lines.specs.Parts.{type_text, kind_text, time_text, place_text, numbers_text, words_text, name_of_set, name_of_claim}

-- a name behind a blank, and nothing where there is none
abbrev pub name_text : Name → List ℕ
name_text [] = []
name_text (byte ∷ name) = codes " " ++ byte ∷ name

-- ` free y`
abbrev pub free_line : Name → List ℕ
free_line family = line (codes " free " ++ family)

-- the unit's own map, which holds before
abbrev pub itself_line : Bool → List ℕ
itself_line true = line (codes " itself before")
itself_line false = []

module _ (d : Design) where
  -- ` parameter 1 T i`: its number from 1, its type, and its name if it has one
  abbrev pub param_line : Param → List ℕ
  param_line p = line (codes " parameter " ++ decimal (p.var + 1) ++ codes " " ++ type_text d p.over ++ name_text p.name)

  abbrev pub param_lines : List Param → List ℕ
  param_lines [] = []
  param_lines (p ∷ params) = param_line p ++ param_lines params

  -- ` use y//L now`
  abbrev pub use_line : Name → ℕ → Timing → List ℕ
  use_line family layer time = line (codes " use " ++ in_layer family (slice_get d.layers layer) ++ time_text time)

  -- the definition that is chosen for a family, or that it is free
  abbrev pub pick_line : Name → Option ℕ → Timing → List ℕ
  pick_line family None time = free_line family
  pick_line family (Some layer) time = use_line family layer time

  abbrev pub pick_lines : List Pick → List Timing → List ℕ
  pick_lines (p ∷ picks) (time ∷ times) = pick_line (name_of_family (slice_get d.families p.family)) p.layer time ++ pick_lines picks times
  pick_lines _ _ = []

  -- ` assume c before`
  abbrev pub claim_line : Assumed → Timing → List ℕ
  claim_line used time = line (codes " assume " ++ name_of_claim (slice_get d.claims used.claim) ++ time_text time)

  abbrev pub claim_lines : List Assumed → List Timing → List ℕ
  claim_lines (used ∷ claims) (time ∷ times) = claim_line used time ++ claim_lines claims times
  claim_lines _ _ = []

  -- ` keep T 1 2`: the parameters of a set type that stay apart, by their numbers from 1
  abbrev pub keep_line : Keep → List ℕ
  keep_line k = line (codes " keep " ++ name_of_set (slice_get d.sets k.set) ++ numbers_text k.params)

  abbrev pub keep_lines : List Keep → List ℕ
  keep_lines [] = []
  keep_lines (k ∷ keeps) = keep_line k ++ keep_lines keeps

  -- what is proved of a unit: the leaf, its parameters and its cases
  abbrev pub leaf_lines : Leaf → Choice → List ℕ
  leaf_lines leaf choice = line (codes " leaf " ++ leaf.name) ++ param_lines leaf.params ++ line (codes " cases " ++ decimal (length (leaf_cases d.sets leaf.params choice.keeps)))

  -- what its proof uses
  abbrev pub choice_lines : Choice → Timed → List ℕ
  choice_lines choice times = pick_lines choice.picks times.picks ++ claim_lines choice.claims times.claims ++ itself_line choice.itself ++ keep_lines choice.keeps

  -- `u: map at line 1 column 1`
  abbrev pub unit_line : List ℕ → Unit → List ℕ
  unit_line text unit = line (name_of d (unit_in d unit) ++ codes ": " ++ kind_text unit ++ place_text text (place_of_unit (unit_in d unit)))

  abbrev pub unit_lines : List ℕ → Unit → Leaf → Choice → Timed → List ℕ
  unit_lines text unit leaf choice times = unit_line text unit ++ leaf_lines leaf choice ++ choice_lines choice times

  -- those of each unit, with its leaf, its choice and its times
  abbrev pub all_lines : List ℕ → List Unit → List Leaf → List Choice → List Timed → List ℕ
  all_lines text (unit ∷ units) (leaf ∷ leaves) (choice ∷ choices) (times ∷ timed) = unit_lines text unit leaf choice times ++ all_lines text units leaves choices timed
  all_lines text _ _ _ _ = []

-- no leaf has too many parameters or cases
abbrev pub HaveFewCases : Plan → Type 0
HaveFewCases plan = (u : ℕ) (leaf : Leaf) (choice : Choice) → slice_get plan.leaves u ≡ Some leaf → slice_get plan.choices u ≡ Some choice → cases_fault plan.design leaf choice ≡ None

-- the lines of a text's plan
abbrev pub list_lines : List ℕ → Plan → List ℕ
list_lines text plan = all_lines plan.design text plan.units plan.leaves plan.choices plan.timed
