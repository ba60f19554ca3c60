-- The cases of a leaf of a plan are those of its unit in the script.
use Rattle.std.proofs.Common.{◌≡◌, ◌∙◌, ℕ, zero, suc, List, [], ◌∷◌, ◌++◌, length, get_or, ◌<◌, Some, Option, refl, sym, ap, subst, arith}
use Rattle.std.specs.Prelude.{unwrap_or}
use Rattle.std.specs.List.{slice_get}
use Rattle.std.proofs.lemmas.Option.{slice_get-get_or}
use Rattle.law_lists.proofs.Options.{some_is}
use Rattle.law_lists.proofs.Places.{get_read}
use Rattle.smv_core.specs.Values.{Name}
use Rattle.smv_core.specs.declared.flat.Unit.{Unit}
use Rattle.smv_core.specs.declared.flat.Unit.TheVariants.{Claim}
use Rattle.smv_core.specs.declared.flat.Leaf.{Leaf}
use Rattle.smv_core.specs.declared.flat.Choice.{Choice}
use Rattle.smv_core.specs.declared.flat.Timed.{Timed}
use Rattle.smv_core.specs.declared.flat.Class.{Class}
use Rattle.smv_core.specs.declared.flat.Case.{Case}
use Rattle.smv_core.specs.declared.flat.Design.{Design}
use Rattle.law_obligations.specs.Sets.{Has, first, later}
use Rattle.law_obligations.specs.LeafCases.{leaf_cases}
use Rattle.law_obligations.specs.Outlines.{Entry, Script, entries_of, unit_in}
use Rattle.law_obligations.specs.Units.{units_of, script_of}
use Rattle.law_obligations.specs.Times.{timed_from}
use Rattle.law_obligations.specs.Readings.{PosedCase}
use Rattle.law_splits.specs.Leaves.{name_of}
use Rattle.smv_problem.specs.declared.report.Plan.{Plan}
use Rattle.law_problems.specs.Parts.{IsCaseOf, entry_of, case_with}
use Rattle.law_reports.specs.PlanLaws.{IsAt}
use Rattle.law_reports.proofs.Plans.{is_entry, case_is}
use Rattle.law_valid_texts.specs.Rooms.{HasRoom, IsWholePlan}
use Rattle.law_valid_texts.proofs.Rooms.{few_params}
use Rattle.smv_cases.specs.Slots.{classes_of}
use Rattle.smv_proof.specs.declared.proof.KeptSet.{KeptSet}
use Rattle.law_checked_proofs.specs.Cases.{UnitCase, unit_name, cases_from, cases_at}
use Rattle.smv_check.specs.declared.units.Progress.{Progress}
use Rattle.smv_check.specs.declared.units.Looked.{Looked}
use Rattle.smv_check.specs.Progress.{HasPassed, IsLooked}
use Rattle.smv_check.proofs.Walks.{UnitIsLooked}

module _ (plan : Plan) (whole : IsWholePlan plan) (u : ℕ) (unit : Unit) (leaf : Leaf) (choice : Choice) (timed : Timed) (is_unit : slice_get plan.units u ≡ Some unit) (is_leaf : slice_get plan.leaves u ≡ Some leaf) (is_choice : slice_get plan.choices u ≡ Some choice)
    (is_timed : slice_get plan.timed u ≡ Some timed) where
  at : IsAt plan.design plan.leaves plan.choices u leaf choice
  at = record {
    each_leaf = whole.leaves ∙ ap (λ (xs : List Unit). length xs) whole.units;
    each_choice = whole.choices ∙ ap (λ (xs : List Unit). length xs) whole.units;
    is_leaf = is_leaf;
    is_choice = is_choice;
    is_unit = whole.own u leaf is_leaf;
  }

  unit_is : (entry_of plan.design leaf choice).unit ≡ unit
  unit_is =
      ap (λ (n : ℕ). unwrap_or (slice_get (units_of plan.design) n) (Claim 0)) (whole.own u leaf is_leaf)
      ∙ ap (λ (o : Option Unit). unwrap_or o (Claim 0)) (ap (λ (xs : List Unit). slice_get xs u) (sym whole.units) ∙ is_unit)

  -- by the leaf's name and its cases
  cases_are : (name : Name) → name ≡ name_of plan.design (unit_in plan.design unit) →
      cases_from name (case_with plan.design leaf choice timed) 0 (leaf_cases plan.design.sets leaf.params choice.keeps) ≡ cases_at (script_of plan.design plan.leaves plan.choices) u (entry_of plan.design leaf choice)
  cases_are name named =
      let s = script_of plan.design plan.leaves plan.choices in
      let classes = leaf_cases plan.design.sets leaf.params choice.keeps in
      let own : name ≡ unit_name s (entry_of plan.design leaf choice) = named ∙ ap (λ (x : Unit). name_of plan.design (unit_in plan.design x)) (sym unit_is) in
      let times : slice_get plan.timed u ≡ Some timed = is_timed in
      ap (λ (n : Name). cases_from n (case_with plan.design leaf choice timed) 0 classes) own
      ∙ ap (λ (case_for : List Class → PosedCase). cases_from (unit_name s (entry_of plan.design leaf choice)) case_for 0 classes)
      (λ i c. case_is plan.design plan.leaves plan.choices u leaf choice at timed (ap (λ (xs : List Timed). slice_get xs u) (sym whole.timed) ∙ times) c i)

  pub unit_is_looked : (name : Name) → name ≡ name_of plan.design (unit_in plan.design unit) → (sets : List KeptSet) (p : Progress) (looked : Looked) →
      ((done : List UnitCase) → HasPassed done sets p → IsLooked (done ++ cases_from name (case_with plan.design leaf choice timed) 0 (leaf_cases plan.design.sets leaf.params choice.keeps)) sets looked) →
      UnitIsLooked (script_of plan.design plan.leaves plan.choices) u sets p looked
  unit_is_looked name named sets p looked is entry there done passed =
      let s = script_of plan.design plan.leaves plan.choices in
      let same : entry_of plan.design leaf choice ≡ entry = some_is (sym (is_entry plan.design plan.leaves plan.choices u leaf choice at) ∙ there) in
      subst (λ (e : Entry). IsLooked (done ++ cases_at s u e) sets looked) same
      (subst (λ (cs : List UnitCase). IsLooked (done ++ cs) sets looked) (cases_are name named) (is done passed))

-- ---- the cases that are listed of a leaf

module _ (d : Design) (leaf : Leaf) (choice : Choice) (cases : List Case) (room : HasRoom d leaf choice) (listed : classes_of cases ≡ leaf_cases d.sets leaf.params choice.keeps) where
  pub case_of_leaf : (n : ℕ) (c : Case) → slice_get cases n ≡ Some c → IsCaseOf d leaf choice c.classes
  case_of_leaf n c is = record { few = few_params d leaf choice room.cases; is_case = subst (λ (xs : List (List Class)). Has xs c.classes) listed (there cases n is) }
    where
      there : (xs : List Case) (n : ℕ) → slice_get xs n ≡ Some c → Has (classes_of xs) c.classes
      there [] n e = absurd (cc (e))
      there (x ∷ xs) zero e = subst (λ (y : Case). Has (classes_of (x ∷ xs)) y.classes) (some_is e) first
      there (x ∷ xs) (suc n) e = later (there xs n e)

-- ---- the parts of a plan, one for each unit

length_entries : (units : List Unit) (leaves : List Leaf) (choices : List Choice) → length leaves ≡ length units → length choices ≡ length units → length (entries_of units leaves choices) ≡ length units
length_entries [] leaves choices e f = refl
length_entries (x ∷ units) [] choices e f = absurd (omega arith)
length_entries (x ∷ units) (y ∷ leaves) [] e f = absurd (omega arith)
length_entries (x ∷ units) (y ∷ leaves) (z ∷ choices) e f = ap (λ n. suc n) (length_entries units leaves choices (omega arith) (omega arith))

length_timed : (s : Script) (k : ℕ) (entries : List Entry) → length (timed_from s k entries) ≡ length entries
length_timed s k [] = refl
length_timed s k (entry ∷ entries) = ap (λ n. suc n) (length_timed s (suc k) entries)

module _ (plan : Plan) (whole : IsWholePlan plan) where
  pub entries_long : length (script_of plan.design plan.leaves plan.choices).entries ≡ length plan.units
  entries_long =
      let units = ap (λ (xs : List Unit). length xs) whole.units in
      let leaves = whole.leaves in
      let choices = whole.choices in
      let long = length_entries (units_of plan.design) plan.leaves plan.choices (omega arith) (omega arith) in
      omega arith

  pub each_leaf : (u : ℕ) → u < length plan.units → u < length plan.leaves
  each_leaf u lt = let leaves = whole.leaves in omega (arith, lt, leaves)

  pub each_choice : (u : ℕ) → u < length plan.units → u < length plan.choices
  each_choice u lt = let choices = whole.choices in omega (arith, lt, choices)

  pub each_timed : (u : ℕ) → u < length plan.units → u < length plan.timed
  each_timed u lt =
      let timed = ap (λ (xs : List Timed). length xs) whole.timed in
      let long = length_timed (script_of plan.design plan.leaves plan.choices) 0 (script_of plan.design plan.leaves plan.choices).entries in
      let entries = entries_long in
      omega (arith, lt, timed, long, entries)

-- what stands at a place of a list that a slice shows
pub part_at : {X : Type 0} (xs shown : List X) (u : ℕ) (x : X) → shown ≡ xs → u < length xs → x ≡ get_or shown u x → slice_get xs u ≡ Some x
part_at {X} xs shown u x same lt is = get_read xs u x lt (subst (λ (ys : List X). x ≡ get_or ys u x) same is)

-- what is copied from there
pub copied_at : {X : Type 0} (xs shown : List X) (u : ℕ) (d : X) → shown ≡ xs → u < length xs → slice_get xs u ≡ Some (get_or shown u d)
copied_at {X} xs shown u d same lt = slice_get-get_or xs u d lt ∙ ap (λ (ys : List X). Some (get_or ys u d)) (sym same)
