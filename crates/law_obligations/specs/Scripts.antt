-- The cases of a script, each with the elements of its cone.
use Rattle.std.specs.Prelude.{◌≡◌, ◌≤◌, ℕ, List, slice_get, Some, IfSome}
use Rattle.smv_core.specs.declared.flat.Design.{Design}
use Rattle.smv_core.specs.declared.flat.SetInfo.{SetInfo}
use Rattle.smv_core.specs.declared.flat.Timed.{Timed}
use Rattle.smv_core.specs.declared.flat.Class.{Class}
use Rattle.law_obligations.specs.Sets.{Has}
use Rattle.law_obligations.specs.LeafCases.{leaf_cases}
use Rattle.law_obligations.specs.Outlines.{Entry, Outline, Script, outline_of}
use Rattle.law_obligations.specs.Times.{graph, timed}
use Rattle.law_obligations.specs.Cones.{cone}
use Rattle.law_obligations.specs.Problems.{world_of, params_at, problem_of}
use Rattle.law_obligations.specs.Checked.{IsChecked, IsProved}
use Rattle.law_obligations.specs.Readings.{PosedCase, IsCase}
use Rattle.law_obligations.specs.CasePaths.{HasNone}

-- the problem of a case and the elements of its cone
abbrev pub case_of : Outline → Entry → Timed → List Class → PosedCase
case_of o entry times classes = record { problem = problem_of o entry times classes; elements = cone (world_of o entry classes) o entry (params_at o entry classes) }

-- that of the leaf of the unit at this place
abbrev pub case_at : Script → ℕ → Entry → List Class → PosedCase
case_at s u entry classes = case_of (outline_of s) entry (timed (outline_of s) (graph s) u entry) classes

-- the classes of a leaf's cases, in order
abbrev pub classes_of : Script → Entry → List (List Class)
classes_of s entry = leaf_cases s.design.sets entry.leaf.params entry.choice.keeps

-- each scalarset that is declared with a size has a value
abbrev pub HaveValues : Design → Type 0
HaveValues d = (info : SetInfo) → Has d.sets info → IfSome info.size (λ n. 1 ≤ n)

-- the cases of a checked script are cases
abbrev pub CasesAreCases : Type 0
CasesAreCases = (s : Script) → IsChecked s → HaveValues s.design → (entry : Entry) → Has s.entries entry → (times : Timed) (classes : List Class) → IsCase (case_of (outline_of s) entry times classes)

-- a script is proved where no case of any leaf has a violating path
abbrev pub ProvedByCases : Type 0
ProvedByCases = (s : Script) → ((u : ℕ) (entry : Entry) → slice_get s.entries u ≡ Some entry → (classes : List Class) → Has (classes_of s entry) classes → HasNone (case_at s u entry classes).problem) → IsProved s
