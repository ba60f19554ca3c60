-- A leaf that has room has few cases.
use Rattle.std.proofs.Common.{◌≡◌, ℕ, ◌≤◌, List, Bool, true, false, ◌||◌, nat_lt, if◌then◌else◌, Some, None, length, refl, ap, arith}
use Rattle.std.proofs.lemmas.List.{length-map}
use Rattle.smv_core.specs.declared.flat.Design.{Design}
use Rattle.smv_core.specs.declared.flat.Leaf.{Leaf}
use Rattle.smv_core.specs.declared.flat.Choice.{Choice}
use Rattle.smv_core.specs.declared.flat.Class.{Class}
use Rattle.smv_core.specs.declared.flat.Case.{Case as CaseData}
use Rattle.law_obligations.specs.LeafCases.{leaf_cases}
use Rattle.law_problems.specs.Parts.{fault_at_unit}
use Rattle.law_valid_texts.specs.Rooms.{HasRoom}
use Rattle.smv_decide.specs.Leaves.{classes_in}

-- a leaf that is not refused has at most 4,096 cases
pub few_cases : (d : Design) (leaf : Leaf) (choice : Choice) (cases : List CaseData) → HasRoom d leaf choice → classes_in cases ≡ leaf_cases d.sets leaf.params choice.keeps → length cases ≤ 4096
few_cases d leaf choice cases room same =
    let mapped : length (classes_in cases) ≡ length cases = length-map cases (λ (c : CaseData). c.classes) in
    let long = ap (λ (xs : List (List Class)). length xs) same in
    let few = by_test (nat_lt 8 (length leaf.params)) (nat_lt 4096 (length (leaf_cases d.sets leaf.params choice.keeps))) refl room.cases in
    omega (arith, mapped, long, few)
  where
    not_more : (n : ℕ) → nat_lt 4096 n ≡ false → n ≤ 4096
    not_more n e = grind arith

    by_test : (a b : Bool) → nat_lt 4096 (length (leaf_cases d.sets leaf.params choice.keeps)) ≡ b → (if a || b then Some (fault_at_unit 29 d leaf) else None) ≡ None → length (leaf_cases d.sets leaf.params choice.keeps) ≤ 4096
    by_test true b h e = absurd (cc (e))
    by_test false true h e = absurd (cc (e))
    by_test false false h e = not_more (length (leaf_cases d.sets leaf.params choice.keeps)) h
