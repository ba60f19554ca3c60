-- The first fault of cases, leaf by leaf.
use Rattle.std.proofs.Common.{◌≡◌, ◌<◌, ◌≤◌, ◌+◌, ℕ, suc, List, ◌∷◌, length, get_or, drop, refl, ap, sym, ◌∙◌, arith}
use Rattle.std.specs.Prelude.{Option, Some, None, option_to_list}
use Rattle.law_lists.proofs.Places.{drop_read, drop_past}
use Rattle.smv_core.specs.declared.fault.Fault.{Fault}
use Rattle.smv_core.specs.declared.flat.Design.{Design}
use Rattle.smv_core.specs.declared.flat.Leaf.{Leaf}
use Rattle.smv_core.specs.declared.flat.Choice.{Choice}
use Rattle.smv_mentions.specs.FirstFault.{first_of}
use Rattle.smv_first_fault.specs.Firsts.{earlier_of}
use Rattle.smv_first_fault.proofs.FirstLaws.{first-both, earlier-assoc, earlier-none}
use Rattle.smv_cases.specs.Faults.{cases_fault}
use Rattle.smv_plans.specs.Plans.{faults_of_cases}

first-one : (f : Option Fault) → first_of (option_to_list f) ≡ f
first-one None = refl
first-one (Some f) = refl

-- one leaf more
pub case-step : (d : Design) (found fault : Option Fault) (leaf : Leaf) (choice : Choice) (leaves : List Leaf) (choices : List Choice) → fault ≡ cases_fault d leaf choice
    → earlier_of (earlier_of found fault) (first_of (faults_of_cases d leaves choices)) ≡ earlier_of found (first_of (faults_of_cases d (leaf ∷ leaves) (choice ∷ choices)))
case-step d found fault leaf choice leaves choices is =
    earlier-assoc found fault (first_of (faults_of_cases d leaves choices))
    ∙ ap (earlier_of found) (ap (λ f. earlier_of f (first_of (faults_of_cases d leaves choices))) (is ∙ sym (first-one (cases_fault d leaf choice))) ∙ sym (first-both (option_to_list (cases_fault d leaf choice)) (faults_of_cases d leaves choices)))

module _ (d : Design) (leaves : List Leaf) (choices : List Choice) where
  -- the faults of the leaves from this place on
  abbrev pub left : ℕ → Option Fault
  left n = first_of (faults_of_cases d (drop n leaves) (drop n choices))

  pub case-at : (n : ℕ) (found fault whole : Option Fault) (leaf : Leaf) (choice : Choice) → n < length leaves → n < length choices → leaf ≡ get_or leaves n leaf → choice ≡ get_or choices n choice
      → fault ≡ cases_fault d leaf choice → earlier_of found (left n) ≡ whole → earlier_of (earlier_of found fault) (left (n + 1)) ≡ whole
  case-at n found fault whole leaf choice one other first second is so_far =
      let next : n + 1 ≡ suc n = omega arith in
      ap (λ m. earlier_of (earlier_of found fault) (left m)) next
      ∙ case-step d found fault leaf choice (drop (suc n) leaves) (drop (suc n) choices) is
      ∙ ap (λ l. earlier_of found (first_of (faults_of_cases d l (choice ∷ drop (suc n) choices)))) (sym (drop_read leaves n leaf one first))
      ∙ ap (λ l. earlier_of found (first_of (faults_of_cases d (drop n leaves) l))) (sym (drop_read choices n choice other second)) ∙ so_far

  pub none-left : (n : ℕ) (found whole : Option Fault) → length leaves ≤ n → earlier_of found (left n) ≡ whole → found ≡ whole
  none-left n found whole past so_far =
      sym (earlier-none found) ∙ ap (λ l. earlier_of found (first_of (faults_of_cases d l (drop n choices)))) (sym (drop_past leaves n past)) ∙ so_far
