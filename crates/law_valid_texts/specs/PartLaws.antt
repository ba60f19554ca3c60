-- The laws: what the crate's public functions say.
use Rattle.std.specs.Prelude.{◌≡◌, ℕ, List, slice_get, Some, None}
use Rattle.smv_core.specs.declared.tree.Text.{Text}
use Rattle.smv_core.specs.declared.flat.Design.{Design}
use Rattle.smv_core.specs.declared.flat.Leaf.{Leaf}
use Rattle.smv_core.specs.declared.flat.Choice.{Choice}
use Rattle.smv_core.specs.declared.flat.Class.{Class}
use Rattle.smv_mentions.specs.FirstFault.{first_of}
use Rattle.law_obligations.specs.Sets.{Has}
use Rattle.law_obligations.specs.LeafCases.{leaf_cases}
use Rattle.law_uses.specs.Choices.{choices_of}
use Rattle.smv_problem.specs.declared.report.Plan.{Plan}
use Rattle.law_problems.specs.Parts.{IsPart, IsCaseOf, cases_fault}
use Rattle.law_valid_texts.specs.Joined.{flat_design}
use Rattle.law_valid_texts.specs.Plans.{IsPlanOf}
use Rattle.law_valid_texts.specs.Faults.{faults_of_widths}
use Rattle.law_valid_texts.specs.Faultless.{IsFaultless}
use Rattle.law_valid_texts.specs.Rooms.{HasRoom, IsWholePlan}

-- each leaf of a plan is that of the unit at its place
abbrev pub LeavesAreInPlace : Type 0
LeavesAreInPlace = (tree : Text) (plan : Plan) → IsPlanOf tree plan → (u : ℕ) (leaf : Leaf) → slice_get plan.leaves u ≡ Some leaf → leaf.unit ≡ u

-- Of a text in which the passes up to cases find no fault, each leaf of a plan with its choice is one that the calls on a leaf take: whatever is chosen, its script is checked, the set types have at
-- most 256 values and at least one, definitions and claims keep the rules of kinds and orders, constants are distinct, indexes run over index types, and each guard of the leaf has a kind and keeps orders.
abbrev pub LeavesAreParts : Type 0
LeavesAreParts = (tree : Text) → IsFaultless tree → (plan : Plan) → IsPlanOf tree plan → (u : ℕ) (leaf : Leaf) (choice : Choice) →
    slice_get plan.leaves u ≡ Some leaf → slice_get plan.choices u ≡ Some choice → IsPart plan.design leaf choice

-- each case of a leaf that has not too many parameters or cases is one of which the calls on a case speak
abbrev pub CasesAreOfLeaves : Type 0
CasesAreOfLeaves = (d : Design) (leaf : Leaf) (choice : Choice) → cases_fault d leaf choice ≡ None → (classes : List Class) → Has (leaf_cases d.sets leaf.params choice.keeps) classes → IsCaseOf d leaf choice classes

-- in such a text no leaf has too many parameters or cases, where the choices are those that `using` states
abbrev pub LeavesHaveFewCases : Type 0
LeavesHaveFewCases = (tree : Text) → IsFaultless tree → (plan : Plan) → IsPlanOf tree plan → plan.choices ≡ choices_of plan.design → (u : ℕ) (leaf : Leaf) (choice : Choice) →
    slice_get plan.leaves u ≡ Some leaf → slice_get plan.choices u ≡ Some choice → cases_fault plan.design leaf choice ≡ None

-- and where no case of a leaf has too many state bits either, each leaf has room
abbrev pub LeavesHaveRoom : Type 0
LeavesHaveRoom = (tree : Text) → IsFaultless tree → first_of (faults_of_widths (flat_design tree)) ≡ None → (plan : Plan) → IsPlanOf tree plan → plan.choices ≡ choices_of plan.design →
    (u : ℕ) (leaf : Leaf) (choice : Choice) → slice_get plan.leaves u ≡ Some leaf → slice_get plan.choices u ≡ Some choice → HasRoom plan.design leaf choice

-- so a plan of such a text, with the choices that `using` states, is ready to be decided
abbrev pub PlansAreWhole : Type 0
PlansAreWhole = (tree : Text) → IsFaultless tree → first_of (faults_of_widths (flat_design tree)) ≡ None → (plan : Plan) → IsPlanOf tree plan → plan.choices ≡ choices_of plan.design → IsWholePlan plan
