-- The cases of a valid text: the names of their units, their numbers and their bits.
use Rattle.std.proofs.Common.{◌≡◌, ◌∙◌, inl, inr, ℕ, zero, suc, ◌+◌, ◌<◌, ◌≤◌, List, [], ◌∷◌, ◌++◌, length, Option, Some, None, Bool, true, false, ◌&&◌, ◌||◌, not, if◌then◌else◌, nat_lt, refl, sym, ap, subst, arith}
use Rattle.std.specs.List.{slice_get}
use Rattle.law_lists.proofs.Booleans.{and_both}
use Rattle.law_lists.proofs.Numbers.{nat_eq-above, nat_lt-not}
use Rattle.law_lists.proofs.Options.{some_is}
use Rattle.law_lists.proofs.Places.{get_there}
use Rattle.std.proofs.lemmas.Option.{slice_get_within}
use Rattle.smv_core.specs.declared.tree.Text.{Text}
use Rattle.smv_core.specs.declared.flat.Design.{Design}
use Rattle.smv_core.specs.declared.flat.Unit.{Unit}
use Rattle.smv_core.specs.declared.flat.Leaf.{Leaf}
use Rattle.smv_core.specs.declared.flat.Choice.{Choice}
use Rattle.smv_core.specs.declared.flat.Class.{Class}
use Rattle.law_obligations.specs.Sets.{Has, first, later}
use Rattle.law_obligations.proofs.Members.{Has-cases}
use Rattle.law_obligations.specs.LeafCases.{leaf_cases}
use Rattle.law_obligations.specs.Outlines.{Entry, Script, entries_of}
use Rattle.law_obligations.specs.Units.{units_of, script_of}
use Rattle.law_obligations.specs.Times.{all_timed, timed_from}
use Rattle.law_obligations.specs.Readings.{PosedCase, state_bits}
use Rattle.law_obligations.specs.Scripts.{case_at, classes_of}
use Rattle.law_splits.specs.Leaves.{leaves_of}
use Rattle.law_uses.specs.Choices.{choices_of}
use Rattle.smv_problem.specs.declared.report.Plan.{Plan}
use Rattle.law_problems.specs.Parts.{IsCaseOf, entry_of, case_with, bits_with, cases_fault, width_fault, fault_at_unit}
use Rattle.law_reports.specs.PlanLaws.{IsAt}
use Rattle.law_reports.proofs.Plans.{is_entry, case_is}
use Rattle.law_valid_texts.specs.Joined.{flat_design}
use Rattle.law_valid_texts.specs.PlanLaws.{ValidTextsAreFaultless}
use Rattle.law_valid_texts.specs.PartLaws.{LeavesAreInPlace, LeavesHaveRoom}
use Rattle.law_valid_texts.specs.Reports.{IsValid, script_of_tree}
use Rattle.law_valid_texts.specs.Rooms.{HasRoom}
use Rattle.law_valid_texts.proofs.Rooms.{few_params}
use Rattle.law_unit_names.specs.Names.{is_visible_name, UnitNamesAreVisible}
use Rattle.smv_proof.specs.Documents.{is_name}
use Rattle.law_checked_proofs.specs.Cases.{UnitCase, unit_name, cases_from, cases_at, unit_cases_from, cases_of}
use Rattle.law_checked_proofs.proofs.Each.{leaf_each, plan_of, is_plan}

-- ---- names

pub name_is : (name : List ℕ) → is_visible_name name ≡ true → is_name name ≡ true
name_is [] e = absurd (cc (e))
name_is (b ∷ name) e = and_both (ap not (nat_eq-above (length (b ∷ name)) 0 (omega arith))) e

-- ---- which case of which unit

-- a case of the unit at a place, by its number and its classes
pub record IsAtUnit (s : Script) (u : ℕ) (entries : List Entry) (c : UnitCase) : Type 0 where
  pub place : ℕ
  pub entry : Entry
  pub is_entry : slice_get entries place ≡ Some entry
  pub unit : c.unit ≡ unit_name s entry
  pub number : c.number < length (classes_of s entry)
  pub is_class : Has (classes_of s entry) c.classes
  pub case : c.case ≡ case_at s (u + place) entry c.classes

record IsFrom (name : List ℕ) (case_for : List Class → PosedCase) (k : ℕ) (cases : List (List Class)) (c : UnitCase) : Type 0 where
  pub unit : c.unit ≡ name
  pub number : c.number < k + length cases
  pub is_class : Has cases c.classes
  pub case : c.case ≡ case_for c.classes

from_cases : (unit : List ℕ) (case_for : List Class → PosedCase) (k : ℕ) (cases : List (List Class)) (c : UnitCase) → Has (cases_from unit case_for k cases) c → IsFrom unit case_for k cases c
from_cases unit case_for k [] c h = elim h [ ]
from_cases unit case_for k (x ∷ cases) _ first = record { unit = refl; number = omega arith; is_class = first; case = refl }
from_cases unit case_for k (x ∷ cases) c (later h) =
    let r = from_cases unit case_for (suc k) cases c h in
    let n = r.number in
    record { unit = r.unit; number = omega (arith, n); is_class = later r.is_class; case = r.case }

pub from_units : (s : Script) (u : ℕ) (entries : List Entry) (c : UnitCase) → Has (unit_cases_from s u entries) c → IsAtUnit s u entries c
from_units s u [] c h = elim h [ ]
from_units s u (entry ∷ entries) c h = elim (Has-cases (cases_at s u entry) (unit_cases_from s (suc u) entries) h) [
  | inl here ↦
      let r = from_cases (unit_name s entry) (case_at s u entry) 0 (classes_of s entry) c here in
      let n = r.number in
      let same : u ≡ u + 0 = omega arith in
      record { place = 0; entry = entry; is_entry = refl; unit = r.unit; number = omega (arith, n); is_class = r.is_class; case = r.case ∙ ap (λ (v : ℕ). case_at s v entry c.classes) same }
  | inr behind ↦
      let r = from_units s (suc u) entries c behind in
      let same : suc u + r.place ≡ u + suc r.place = omega arith in
      record { place = suc r.place; entry = r.entry; is_entry = r.is_entry; unit = r.unit; number = r.number; is_class = r.is_class; case = r.case ∙ ap (λ (v : ℕ). case_at s v r.entry c.classes) same }
]

-- ---- the parts of an entry

pub record HasParts (units : List Unit) (leaves : List Leaf) (choices : List Choice) (u : ℕ) (entry : Entry) : Type 0 where
  pub unit : slice_get units u ≡ Some entry.unit
  pub leaf : slice_get leaves u ≡ Some entry.leaf
  pub choice : slice_get choices u ≡ Some entry.choice

parts_at : (units : List Unit) (leaves : List Leaf) (choices : List Choice) (u : ℕ) (entry : Entry) → slice_get (entries_of units leaves choices) u ≡ Some entry → HasParts units leaves choices u entry
parts_at [] leaves choices u entry e = absurd (cc (e))
parts_at (x ∷ units) [] choices u entry e = absurd (cc (e))
parts_at (x ∷ units) (y ∷ leaves) [] u entry e = absurd (cc (e))
parts_at (x ∷ units) (y ∷ leaves) (z ∷ choices) zero entry e =
    let same = some_is e in
    record { unit = ap (λ (n : Entry). Some n.unit) same; leaf = ap (λ (n : Entry). Some n.leaf) same; choice = ap (λ (n : Entry). Some n.choice) same }
parts_at (x ∷ units) (y ∷ leaves) (z ∷ choices) (suc u) entry e = let r = parts_at units leaves choices u entry e in record { unit = r.unit; leaf = r.leaf; choice = r.choice }

Has_at : {X : Type 0} (xs : List X) (n : ℕ) (x : X) → slice_get xs n ≡ Some x → Has xs x
Has_at [] n x e = absurd (cc (e))
Has_at {X} (y ∷ xs) zero x e = subst (Has (y ∷ xs)) (some_is e) first
Has_at (y ∷ xs) (suc n) x e = later (Has_at xs n x e)

length_timed : (s : Script) (k : ℕ) (entries : List Entry) → length (timed_from s k entries) ≡ length entries
length_timed s k [] = refl
length_timed s k (entry ∷ entries) = ap suc (length_timed s (suc k) entries)

few_cases : (d : Design) (leaf : Leaf) (choice : Choice) → cases_fault d leaf choice ≡ None → length (leaf_cases d.sets leaf.params choice.keeps) ≤ 4096
few_cases d leaf choice e = by_test (nat_lt 8 (length leaf.params)) (nat_lt 4096 (length (leaf_cases d.sets leaf.params choice.keeps))) refl e
  where
    by_test : (a b : Bool) → nat_lt 4096 (length (leaf_cases d.sets leaf.params choice.keeps)) ≡ b → (if a || b then Some (fault_at_unit 29 d leaf) else None) ≡ None → length (leaf_cases d.sets leaf.params choice.keeps) ≤ 4096
    by_test true b h e = absurd (cc (e))
    by_test false true h e = absurd (cc (e))
    by_test false false h e = nat_lt-not 4096 (length (leaf_cases d.sets leaf.params choice.keeps)) h

few_bits : (d : Design) (leaf : Leaf) (choice : Choice) (classes : List Class) → width_fault d leaf choice classes ≡ None → bits_with d leaf choice classes ≤ 1024
few_bits d leaf choice classes e = by_test (nat_lt 1024 (bits_with d leaf choice classes)) refl e
  where
    by_test : (b : Bool) → nat_lt 1024 (bits_with d leaf choice classes) ≡ b → (if b then Some (fault_at_unit 30 d leaf) else None) ≡ None → bits_with d leaf choice classes ≤ 1024
    by_test true h e = absurd (cc (e))
    by_test false h e = nat_lt-not 1024 (bits_with d leaf choice classes) h

-- ---- a case of a valid text

module _ (faultless : ValidTextsAreFaultless) (text : List ℕ) (tree : Text) (valid : IsValid text tree) (c : UnitCase) (h : Has (cases_of tree) c) where
  abbrev d : Design
  d = flat_design tree

  abbrev plan : Plan
  plan = plan_of tree

  at_unit : IsAtUnit (script_of_tree tree) 0 (script_of_tree tree).entries c
  unfolding cases_of
  at_unit = from_units (script_of_tree tree) 0 (script_of_tree tree).entries c h

  parts : HasParts (units_of d) (leaves_of d) (choices_of d) at_unit.place at_unit.entry
  parts = parts_at (units_of d) (leaves_of d) (choices_of d) at_unit.place at_unit.entry at_unit.is_entry

  pub is_named : UnitNamesAreVisible → is_name c.unit ≡ true
  is_named visible =
      let clean = (faultless text tree valid).0 in
      let spelled = valid.is_tree.spelled in
      subst (λ (name : List ℕ). is_name name ≡ true) (sym at_unit.unit)
      (name_is (unit_name (script_of_tree tree) at_unit.entry) (visible text spelled.0 64 tree spelled.1 spelled.2 clean.kinds clean.single at_unit.entry.unit (Has_at (units_of d) at_unit.place at_unit.entry.unit parts.unit)))

  module _ (in_place : LeavesAreInPlace) (rooms : LeavesHaveRoom) where
    room : HasRoom d at_unit.entry.leaf at_unit.entry.choice
    room =
        let clean = faultless text tree valid in
        rooms tree clean.0 clean.1 plan (is_plan tree) refl at_unit.place at_unit.entry.leaf at_unit.entry.choice parts.leaf parts.choice

    pub is_counted : c.number < 4096
    is_counted = let few = few_cases d at_unit.entry.leaf at_unit.entry.choice room.cases in let n = at_unit.number in omega (arith, few, n)

    is_at : IsAt d (leaves_of d) (choices_of d) at_unit.place at_unit.entry.leaf at_unit.entry.choice
    is_at =
        let whole = is_plan tree in
        record {
          each_leaf = leaf_each d 0 (units_of d);
          each_choice = whole.choices;
          is_leaf = parts.leaf;
          is_choice = parts.choice;
          is_unit = in_place tree plan whole at_unit.place at_unit.entry.leaf parts.leaf;
        }

    pub is_narrow : state_bits c.case ≤ 1024
    is_narrow =
        let s = script_of_tree tree in
        let entry : at_unit.entry ≡ entry_of d at_unit.entry.leaf at_unit.entry.choice = some_is (sym at_unit.is_entry ∙ is_entry d (leaves_of d) (choices_of d) at_unit.place at_unit.entry.leaf at_unit.entry.choice is_at) in
        let below = slice_get_within s.entries at_unit.place at_unit.entry at_unit.is_entry in
        let timed_long = length_timed s 0 s.entries in
        let times = get_there (all_timed s) at_unit.place (omega (arith, below, timed_long)) in
        let place : 0 + at_unit.place ≡ at_unit.place = omega arith in
        let is_case : c.case ≡ case_with d at_unit.entry.leaf at_unit.entry.choice times.0 c.classes =
        at_unit.case ∙ (ap (λ (u : ℕ). case_at s u at_unit.entry c.classes) place ∙ (ap (λ (e : Entry). case_at s at_unit.place e c.classes) entry ∙ sym (case_is d (leaves_of d) (choices_of d) at_unit.place at_unit.entry.leaf at_unit.entry.choice is_at times.0 times.1 c.classes))) in
        let width = few_bits d at_unit.entry.leaf at_unit.entry.choice c.classes (room.width c.classes (record { few = few_params d at_unit.entry.leaf at_unit.entry.choice room.cases; is_case = at_unit.is_class })) in
        subst (λ (x : PosedCase). state_bits x ≤ 1024) (sym is_case) width
