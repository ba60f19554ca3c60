-- The first of some faults, found one after the other.
use Rattle.std.proofs.Common.{◌≡◌, ◌<◌, ◌≤◌, ◌+◌, ℕ, zero, suc, List, [], ◌∷◌, zip, length, get_or, drop, refl, ap, sym, ◌∙◌, arith}
use Rattle.std.specs.Prelude.{Option, Some, None, option_to_list, flat_map}
use Rattle.std.proofs.lemmas.Option.{slice_get_read}
use Rattle.law_lists.proofs.Places.{drop_read, drop_past}
use Rattle.smv_core.specs.declared.fault.Fault.{Fault}
use Rattle.smv_core.specs.declared.flat.Case.{Case}
use Rattle.smv_core.specs.declared.flat.Class.{Class}
use Rattle.smv_core.specs.declared.flat.Design.{Design}
use Rattle.smv_core.specs.declared.flat.Leaf.{Leaf}
use Rattle.smv_core.specs.declared.flat.Choice.{Choice}
use Rattle.law_obligations.specs.Sets.{Has, first, later}
use Rattle.smv_mentions.specs.FirstFault.{first_of}
use Rattle.smv_first_fault.specs.Firsts.{earlier_of}
use Rattle.smv_first_fault.proofs.FirstLaws.{first-both, earlier-assoc, earlier-none}
use Rattle.smv_cases.specs.Slots.{classes_of}
use Rattle.law_problems.specs.Parts.{IsPart, IsCaseOf, cases_fault, width_fault}
use Rattle.smv_read_design.specs.Widths.{faults_in, leaf_faults, faults_of_widths, AreParts}

first_one : (f : Option Fault) → first_of (option_to_list f) ≡ f
first_one None = refl
first_one (Some f) = refl

-- one part more, in front of others
part_first : {A : Type 0} (of : A → List Fault) (x : A) (xs : List A) (found fault : Option Fault) → fault ≡ first_of (of x) →
    earlier_of (earlier_of found fault) (first_of (flat_map of xs)) ≡ earlier_of found (first_of (flat_map of (x ∷ xs)))
part_first of x xs found fault is =
    earlier-assoc found fault (first_of (flat_map of xs))
    ∙ ap (earlier_of found) (ap (λ f. earlier_of f (first_of (flat_map of xs))) is ∙ sym (first-both (of x) (flat_map of xs)))

-- ---- the cases of a leaf

module _ (d : Design) (leaf : Leaf) (choice : Choice) (cases : List Case) where
  -- the first fault of the cases from this place on
  abbrev pub cases_from : ℕ → Option Fault
  cases_from n = first_of (faults_in d leaf choice (classes_of (drop n cases)))

  pub case_at : (n : ℕ) (found fault whole : Option Fault) (case : Case) → n < length cases → case ≡ get_or cases n case →
      fault ≡ width_fault d leaf choice case.classes → earlier_of found (cases_from n) ≡ whole → earlier_of (earlier_of found fault) (cases_from (n + 1)) ≡ whole
  case_at n found fault whole case within is own so_far =
      let next : n + 1 ≡ suc n = omega arith in
      ap (λ m. earlier_of (earlier_of found fault) (cases_from m)) next
      ∙ part_first (λ classes. option_to_list (width_fault d leaf choice classes)) case.classes (classes_of (drop (suc n) cases)) found fault (own ∙ sym (first_one (width_fault d leaf choice case.classes)))
      ∙ ap (λ l. earlier_of found (first_of (faults_in d leaf choice (classes_of l)))) (sym (drop_read cases n case within is)) ∙ so_far

  pub cases_end : (n : ℕ) (found whole : Option Fault) → length cases ≤ n → earlier_of found (cases_from n) ≡ whole → found ≡ whole
  cases_end n found whole past so_far = sym (earlier-none found) ∙ ap (λ l. earlier_of found (first_of (faults_in d leaf choice (classes_of l)))) (sym (drop_past cases n past)) ∙ so_far

pub case_there : (cases : List Case) (n : ℕ) (case : Case) → n < length cases → case ≡ get_or cases n case → Has (classes_of cases) case.classes
case_there [] n case within is = absurd (omega (arith, within))
case_there (x ∷ cases) zero case within is = rw is first
case_there (x ∷ cases) (suc n) case within is = later (case_there cases n case (omega (arith, within)) is)

-- ---- the leaves of a plan

module _ (d : Design) (leaves : List Leaf) (choices : List Choice) where
  -- the first fault of the leaves from this place on
  abbrev pub leaves_from : ℕ → Option Fault
  leaves_from n = first_of (faults_of_widths d (drop n leaves) (drop n choices))

  pub leaf_at : (n : ℕ) (found fault whole : Option Fault) (leaf : Leaf) (choice : Choice) → n < length leaves → n < length choices → leaf ≡ get_or leaves n leaf → choice ≡ get_or choices n choice
      → fault ≡ first_of (leaf_faults d leaf choice) → earlier_of found (leaves_from n) ≡ whole → earlier_of (earlier_of found fault) (leaves_from (n + 1)) ≡ whole
  leaf_at n found fault whole leaf choice one other is same own so_far =
      let next : n + 1 ≡ suc n = omega arith in
      ap (λ m. earlier_of (earlier_of found fault) (leaves_from m)) next
      ∙ part_first (λ ((l, c) : Leaf × Choice). leaf_faults d l c) (leaf, choice) (zip (drop (suc n) leaves) (drop (suc n) choices)) found fault own
      ∙ ap (λ l. earlier_of found (first_of (faults_of_widths d l (choice ∷ drop (suc n) choices)))) (sym (drop_read leaves n leaf one is))
      ∙ ap (λ l. earlier_of found (first_of (faults_of_widths d (drop n leaves) l))) (sym (drop_read choices n choice other same)) ∙ so_far

  pub leaves_end : (n : ℕ) (found whole : Option Fault) → length leaves ≤ n → earlier_of found (leaves_from n) ≡ whole → found ≡ whole
  leaves_end n found whole past so_far =
      sym (earlier-none found) ∙ ap (λ l. earlier_of found (first_of (faults_of_widths d l (drop n choices)))) (sym (drop_past leaves n past)) ∙ so_far

-- a leaf at a place is one that the calls take, and has not too many cases
pub part_there : (d : Design) (leaves : List Leaf) (choices : List Choice) → AreParts d leaves choices → (n : ℕ) (leaf : Leaf) (choice : Choice) → n < length leaves → n < length choices → leaf ≡ get_or leaves n leaf → choice ≡ get_or choices n choice
    → IsPart d leaf choice × (cases_fault d leaf choice ≡ None)
part_there d leaves choices parts n leaf choice one other is same = parts n leaf choice (slice_get_read leaves (length leaves) n leaf refl one is) (slice_get_read choices (length choices) n choice refl other same)

pub few_there : (d : Design) (leaves : List Leaf) (choices : List Choice) → AreParts d leaves choices → (n : ℕ) (leaf : Leaf) (choice : Choice) → n < length leaves → n < length choices → leaf ≡ get_or leaves n leaf → choice ≡ get_or choices n choice
    → cases_fault d leaf choice ≡ None
few_there d leaves choices parts n leaf choice one other is same = (part_there d leaves choices parts n leaf choice one other is same).1

pub case_of_there : (d : Design) (leaf : Leaf) (choice : Choice) (cases : List Case) → ((classes : List Class) → Has (classes_of cases) classes → IsCaseOf d leaf choice classes) → (n : ℕ) (case : Case) → n < length cases → case ≡ get_or cases n case
    → IsCaseOf d leaf choice case.classes
case_of_there d leaf choice cases all n case within is = all case.classes (case_there cases n case within is)

pub ruleset along_cases = (case_at, cases_end, case_of_there)

pub ruleset along_leaves = (leaf_at, leaves_end, part_there, few_there)
