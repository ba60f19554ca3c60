-- Leaves and cases in a text without a fault of cases and of state bits.
use Rattle.std.proofs.Common.{◌≡◌, ◌≤◌, ℕ, List, [], ◌∷◌, flat_map, length, Option, Some, None, Bool, true, false, ◌||◌, nat_lt, refl, subst, arith}
use Rattle.std.specs.Prelude.{if◌then◌else◌}
use Rattle.std.specs.Option.{option_to_list}
use Rattle.std.specs.List.{slice_get}
use Rattle.smv_core.specs.declared.tree.Text.{Text}
use Rattle.smv_core.specs.declared.flat.Design.{Design}
use Rattle.smv_core.specs.declared.flat.Leaf.{Leaf}
use Rattle.smv_core.specs.declared.flat.Choice.{Choice}
use Rattle.smv_core.specs.declared.flat.Class.{Class}
use Rattle.smv_mentions.specs.FirstFault.{first_of}
use Rattle.law_obligations.specs.Sets.{Has, first, later}
use Rattle.law_obligations.specs.LeafCases.{leaf_cases}
use Rattle.law_splits.specs.Leaves.{leaves_of}
use Rattle.law_uses.specs.Choices.{choices_of}
use Rattle.smv_problem.specs.declared.report.Plan.{Plan}
use Rattle.law_designs.proofs.Faultless.{empty-both, no_fault-in}
use Rattle.law_problems.specs.Parts.{IsCaseOf, cases_fault, width_fault, fault_at_unit}
use Rattle.law_valid_texts.specs.Plans.{IsPlanOf}
use Rattle.law_valid_texts.specs.Faults.{parts_of, faults_of_cases, faults_of_widths}
use Rattle.law_valid_texts.specs.PartLaws.{CasesAreOfLeaves}
use Rattle.law_valid_texts.proofs.Places.{beside}

none-each : {X Y : Type 0} (f : X → List Y) (xs : List X) → flat_map f xs ≡ [] → {x : X} → Has xs x → f x ≡ []
none-each f [] e h = elim h [ ]
none-each f (y ∷ xs) e first = (empty-both (f y) (flat_map f xs) e).0
none-each f (y ∷ xs) e (later h) = none-each f xs (empty-both (f y) (flat_map f xs) e).1 h

absent : {X : Type 0} (o : Option X) → option_to_list o ≡ [] → o ≡ None
absent None e = refl
absent (Some x) e = absurd (cc (e))

-- a leaf that is not refused has at most eight parameters
pub few_params : (d : Design) (leaf : Leaf) (choice : Choice) → cases_fault d leaf choice ≡ None → length leaf.params ≤ 8
few_params d leaf choice e = by_test (nat_lt 8 (length leaf.params)) (nat_lt 4096 (length (leaf_cases d.sets leaf.params choice.keeps))) refl e
  where
    not_more : (n : ℕ) → nat_lt 8 n ≡ false → n ≤ 8
    not_more n e = grind arith

    by_test : (a b : Bool) → nat_lt 8 (length leaf.params) ≡ a → (if a || b then Some (fault_at_unit 29 d leaf) else None) ≡ None → length leaf.params ≤ 8
    by_test true b h e = absurd (cc (e))
    by_test false b h e = not_more (length leaf.params) h

pub cases_are_of_leaves : CasesAreOfLeaves
cases_are_of_leaves d leaf choice e classes h = record { few = few_params d leaf choice e; is_case = h }

-- the leaf and the choice at a place of a text's plan, where the choices are those that `using` states
pub in_parts : (tree : Text) (plan : Plan) → IsPlanOf tree plan → plan.choices ≡ choices_of plan.design → (u : ℕ) (leaf : Leaf) (choice : Choice) → slice_get plan.leaves u ≡ Some leaf →
    slice_get plan.choices u ≡ Some choice → Has (parts_of plan.design) (leaf, choice)
in_parts tree plan is stated u leaf choice e i =
    beside (leaves_of plan.design) (choices_of plan.design) u leaf choice
    (subst (λ (leaves : List Leaf). slice_get leaves u ≡ Some leaf) is.leaves e) (subst (λ (choices : List Choice). slice_get choices u ≡ Some choice) stated i)

pub no_cases_fault : (d : Design) → first_of (faults_of_cases d) ≡ None → (leaf : Leaf) (choice : Choice) → Has (parts_of d) (leaf, choice) → cases_fault d leaf choice ≡ None
no_cases_fault d none leaf choice h =
    absent (cases_fault d leaf choice) (none-each (λ (leaf, choice). option_to_list (cases_fault d leaf choice)) (parts_of d) (no_fault-in (faults_of_cases d) none) h)

pub no_width_fault : (d : Design) → first_of (faults_of_widths d) ≡ None → (leaf : Leaf) (choice : Choice) → Has (parts_of d) (leaf, choice) → (classes : List Class) → IsCaseOf d leaf choice classes →
    width_fault d leaf choice classes ≡ None
no_width_fault d none leaf choice h classes is =
    let of_leaf : flat_map (λ classes. option_to_list (width_fault d leaf choice classes)) (leaf_cases d.sets leaf.params choice.keeps) ≡ [] =
    none-each (λ (leaf, choice). flat_map (λ classes. option_to_list (width_fault d leaf choice classes)) (leaf_cases d.sets leaf.params choice.keeps)) (parts_of d) (no_fault-in (faults_of_widths d) none) h in
    absent (width_fault d leaf choice classes) (none-each (λ classes. option_to_list (width_fault d leaf choice classes)) (leaf_cases d.sets leaf.params choice.keeps) of_leaf is.is_case)
