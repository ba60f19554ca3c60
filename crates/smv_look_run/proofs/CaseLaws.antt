-- The case of a number, and what is due to it.
use Rattle.std.proofs.Common.{◌≡◌, ◌∙◌, ℕ, ◌-◌, ◌<◌, List, length, Option, Some, sym, ap, subst}
use Rattle.std.specs.Prelude.{option_map, slice_get, get_or}
use Rattle.std.proofs.lemmas.Option.{slice_get-map, slice_get-get_or}
use Rattle.law_lists.proofs.Lists.{length_map}
use Rattle.smv_core.specs.declared.flat.Design.{Design}
use Rattle.smv_core.specs.declared.flat.Leaf.{Leaf}
use Rattle.smv_core.specs.declared.flat.Choice.{Choice}
use Rattle.smv_core.specs.declared.flat.Case.{Case}
use Rattle.smv_core.specs.declared.flat.Class.{Class}
use Rattle.law_obligations.specs.LeafCases.{leaf_cases}
use Rattle.law_obligations.proofs.OneOfEach.{get_Has}
use Rattle.law_problems.specs.Parts.{IsCaseOf}
use Rattle.law_valid_texts.specs.PartLaws.{CasesAreOfLeaves}
use Rattle.law_valid_texts.specs.Rooms.{HasRoom, IsWholePlan}
use Rattle.smv_problem.specs.declared.report.Plan.{Plan}
use Rattle.smv_cases.specs.Slots.{classes_of}
use Rattle.smv_look_run.specs.Cases.{case_numbered, classes_of_cases}

-- the element at a place of a list that a slice shows
pub part_at : {X : Type 0} (xs shown : List X) (u : ℕ) (x : X) → shown ≡ xs → u < length xs → x ≡ get_or shown u x → slice_get xs u ≡ Some x
part_at {X} xs shown u x same lt is = slice_get-get_or xs u x lt ∙ ap Some (sym (subst (λ (ys : List X). x ≡ get_or ys u x) same is))

-- what is copied from there
pub copied_at : {X : Type 0} (xs shown : List X) (u : ℕ) (d : X) → shown ≡ xs → u < length xs → slice_get xs u ≡ Some (get_or shown u d)
copied_at {X} xs shown u d same lt = slice_get-get_or xs u d lt ∙ ap (λ (ys : List X). Some (get_or ys u d)) (sym same)

-- each unit of a whole plan has a leaf and a choice
pub each_leaf : (plan : Plan) → IsWholePlan plan → (u : ℕ) → u < length plan.units → u < length plan.leaves
each_leaf plan whole u lt = subst (λ (n : ℕ). u < n) (sym whole.leaves) lt

pub each_choice : (plan : Plan) → IsWholePlan plan → (u : ℕ) → u < length plan.units → u < length plan.choices
each_choice plan whole u lt = subst (λ (n : ℕ). u < n) (sym whole.choices) lt

module _ (d : Design) (leaf : Leaf) (choice : Choice) (cases : List Case) (same : classes_of cases ≡ leaf_cases d.sets leaf.params choice.keeps) (number : ℕ) where
  -- the case of a number is found at the place before it
  pub numbered : (found : Option Case) → slice_get cases (number - 1) ≡ found → case_numbered d leaf choice number ≡ option_map (λ (c : Case). c.classes) found
  numbered found get =
      ap (λ (xs : List (List Class)). slice_get xs (number - 1)) (sym same) ∙ (slice_get-map (λ (c : Case). c.classes) cases (number - 1) ∙ ap (option_map (λ (c : Case). c.classes)) get)

  -- there are as many as the leaf has
  pub counted : (count : ℕ) → count ≡ length cases → count ≡ length (classes_of_cases d leaf choice)
  counted count is = is ∙ (sym (length_map (λ (c : Case). c.classes) cases) ∙ ap (λ (xs : List (List Class)). length xs) same)

  -- it is one of the leaf
  pub is_case : CasesAreOfLeaves → HasRoom d leaf choice → (case : Case) → slice_get cases (number - 1) ≡ Some case → IsCaseOf d leaf choice case.classes
  is_case law room case get = law d leaf choice room.cases case.classes (get_Has (leaf_cases d.sets leaf.params choice.keeps) (number - 1) case.classes (numbered (Some case) get))
