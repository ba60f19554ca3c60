-- Budgets that are enough for a case, and what is told under them.
use Rattle.std.specs.Prelude.{◌≡◌, ◌≤◌, ◌<◌, ℕ, ◌+◌, ◌-◌, ◌*◌, ◌^◌, List, length, Bool, true, false}
use Rattle.bdd_store.specs.Beads.{bead_count}
use Rattle.smv_core.specs.declared.flat.Class.{Class}
use Rattle.smv_bits.specs.declared.Bits.{Bits}
use Rattle.smv_bits.specs.declared.Bits.TheVariants.{Near, Declared}
use Rattle.law_obligations.specs.Sets.{Has}
use Rattle.law_obligations.specs.Outlines.{Entry, Script}
use Rattle.law_obligations.specs.Readings.{IsCase}
use Rattle.law_obligations.specs.Scripts.{case_at, classes_of}
use Rattle.smv_rings.specs.Lists.{Lists, IsLists}
use Rattle.smv_rings.specs.Schedule.{functions}
use Rattle.law_events.specs.Events.{IsFirstEvent}
use Rattle.law_events.specs.Events.Event.{Counted, Images}
use Rattle.smv_core.specs.declared.flat.Case.{Case}
use Rattle.smv_problem.specs.declared.report.Verdict.{Verdict}
use Rattle.smv_problem.specs.declared.report.Verdict.TheVariants.{True, False, UnknownNodes, UnknownSteps}
use Rattle.smv_problem.specs.declared.report.UnitResult.{UnitResult}
use Rattle.law_reports.specs.CaseLists.{case_lists}
use Rattle.law_reports.specs.Reports.{IsResultOf}

-- truth tables over n variables have at most 2 ^ n - 1 beads each
abbrev pub FewBeads : Type 0
FewBeads = (n : ℕ) (tables : List (List Bool)) → bead_count n tables ≤ length tables * (2 ^ n - 1)

-- steps that are enough for a case: as many images as it has states
abbrev pub enough_steps : Lists → ℕ
enough_steps l = 2 ^ l.bits

-- nodes that are enough: as many beads as functions of the current and the next bits may have, for the functions of the case, a ring for each of its states, and two more
abbrev pub enough_nodes : Lists → ℕ
enough_nodes l = (length (functions l) + 2 ^ l.bits + 2) * (2 ^ (2 * l.bits) - 1)

-- with enough steps they are never used up
abbrev pub StepsSuffice : Type 0
StepsSuffice = (l : Lists) → IsLists l → (nodes steps : ℕ) → enough_steps l ≤ steps → IsFirstEvent l nodes steps Images → ⊥

-- with enough nodes their budget is never passed, whatever that of steps is
abbrev pub NodesSuffice : Type 0
NodesSuffice = (l : Lists) → IsLists l → (nodes steps : ℕ) → enough_nodes l ≤ nodes → (count : ℕ) → IsFirstEvent l nodes steps (Counted count) → ⊥

-- the lists of functions of a case
abbrev pub lists_at : Script → ℕ → Entry → List Class → Lists
lists_at s u entry classes = case_lists (case_at s u entry classes)

-- Over near bits it is said of the problem that steps are spent; so there its states have to be those of the bits, as they are in every checked script.
abbrev pub HasCases : Bits → Script → ℕ → Entry → Type 0
HasCases Declared s u entry = Unit {0}
HasCases Near s u entry = (classes : List Class) → IsCase (case_at s u entry classes)

-- where a case is told unknown by steps, the budget was less than its states
abbrev pub UnknownStepsAreFew : Type 0
UnknownStepsAreFew = (s : Script) (bits : Bits) (nodes steps u : ℕ) (entry : Entry) → HasCases bits s u entry → (r : UnitResult) → IsResultOf s bits nodes steps u entry r →
    (case : Case) → r.verdict ≡ UnknownSteps case → steps < enough_steps (lists_at s u entry case.classes)

-- where a case is told unknown by nodes, the budget was less than what is enough for it
abbrev pub UnknownNodesAreFew : Type 0
UnknownNodesAreFew = (s : Script) (bits : Bits) (nodes steps u : ℕ) (entry : Entry) (r : UnitResult) → IsResultOf s bits nodes steps u entry r →
    (case : Case) (count : ℕ) → r.verdict ≡ UnknownNodes case count → nodes < enough_nodes (lists_at s u entry case.classes)

-- true or false
abbrev pub is_decided : Verdict → Bool
is_decided True = true
is_decided (False case elements path) = true
is_decided (UnknownNodes case count) = false
is_decided (UnknownSteps case) = false

-- budgets that are enough for each case of a unit
pub record AreEnough (s : Script) (nodes steps u : ℕ) (entry : Entry) : Type 0 where
  pub steps_are : (classes : List Class) → Has (classes_of s entry) classes → enough_steps (lists_at s u entry classes) ≤ steps
  pub nodes_are : (classes : List Class) → Has (classes_of s entry) classes → enough_nodes (lists_at s u entry classes) ≤ nodes

-- under enough budgets a unit is told true or false
abbrev pub EnoughDecides : Type 0
EnoughDecides = (s : Script) (bits : Bits) (nodes steps u : ℕ) (entry : Entry) → HasCases bits s u entry → AreEnough s nodes steps u entry → (r : UnitResult) → IsResultOf s bits nodes steps u entry r → is_decided r.verdict ≡ true
