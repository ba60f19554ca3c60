-- Each case of a script has a set where sets stand for all of them.
use Rattle.std.proofs.Common.{◌≡◌, ◌∙◌, ℕ, zero, suc, ◌+◌, List, [], ◌∷◌, ◌++◌, length, Some, true, refl, sym, ap, subst, arith}
use Rattle.std.specs.List.{slice_get}
use Rattle.std.proofs.lemmas.List.{length-map}
use Rattle.law_lists.proofs.Booleans.{right_of}
use Rattle.smv_core.specs.declared.tree.Text.{Text}
use Rattle.smv_core.specs.declared.flat.Design.{Design}
use Rattle.smv_core.specs.declared.flat.Unit.{Unit}
use Rattle.smv_core.specs.declared.flat.Class.{Class}
use Rattle.law_obligations.specs.Sets.{Has, first, later}
use Rattle.law_lists.proofs.Options.{some_is}
use Rattle.law_obligations.proofs.Members.{Has-left, Has-right}
use Rattle.law_obligations.specs.Outlines.{Entry, Script}
use Rattle.law_obligations.specs.Units.{units_of, script_of}
use Rattle.law_obligations.specs.Times.{all_timed}
use Rattle.law_obligations.specs.Readings.{PosedCase}
use Rattle.law_obligations.specs.Scripts.{case_at, classes_of}
use Rattle.law_splits.specs.Leaves.{leaves_from, leaves_of}
use Rattle.law_uses.specs.Choices.{choice_of, choices_of}
use Rattle.smv_problem.specs.declared.report.Plan.{Plan}
use Rattle.law_valid_texts.specs.Joined.{flat_design}
use Rattle.law_valid_texts.specs.Plans.{IsPlanOf}
use Rattle.smv_proof.specs.declared.proof.KeptSet.{KeptSet}
use Rattle.law_checked_proofs.specs.Cases.{UnitCase, cases_from, unit_name, cases_at, unit_cases_from}
use Rattle.law_checked_proofs.specs.Checked.{is_for, are_for, Meets, AllMeet}

-- ---- the plan of a text

pub leaf_each : (d : Design) (u : ℕ) (units : List Unit) → length (leaves_from d u units) ≡ length units
leaf_each d u [] = refl
leaf_each d u (unit ∷ units) = ap suc (leaf_each d (suc u) units)

abbrev pub plan_of : Text → Plan
plan_of tree =
    let d = flat_design tree in
    record { design = d; units = units_of d; leaves = leaves_of d; choices = choices_of d; timed = all_timed (script_of d (leaves_of d) (choices_of d)) }

pub is_plan : (tree : Text) → IsPlanOf tree (plan_of tree)
is_plan tree =
    let d = flat_design tree in
    record { design = refl; units = refl; leaves = refl; choices = length-map (leaves_of d) (choice_of d (units_of d)) ∙ leaf_each d 0 (units_of d); timed = refl }

-- ---- cases

pub in_cases : (unit : List ℕ) (case_for : List Class → PosedCase) (k : ℕ) (cases : List (List Class)) (classes : List Class) → Has cases classes →
    (n : ℕ) × Has (cases_from unit case_for k cases) (record { unit = unit; number = n; classes = classes; case = case_for classes })
in_cases unit case_for k [] classes h = elim h [ ]
in_cases unit case_for k (x ∷ cases) _ first = (k, first)
in_cases unit case_for k (x ∷ cases) classes (later h) = let r = in_cases unit case_for (suc k) cases classes h in (r.0, later r.1)

pub in_units : (s : Script) (from u v : ℕ) (entries : List Entry) → v ≡ u + from → (entry : Entry) → slice_get entries u ≡ Some entry → (classes : List Class) → Has (classes_of s entry) classes →
    (n : ℕ) × Has (unit_cases_from s from entries) (record { unit = unit_name s entry; number = n; classes = classes; case = case_at s v entry classes })
in_units s from u v [] e entry g classes h = absurd (cc (g))
in_units s from zero v (x ∷ entries) e entry g classes h =
    let same : from ≡ v = omega (arith, e) in
    let r = in_cases (unit_name s entry) (case_at s v entry) 0 (classes_of s entry) classes h in (
      r.0,
      subst (λ (y : Entry). Has (cases_at s from y ++ unit_cases_from s (suc from) entries) (record { unit = unit_name s entry; number = r.0; classes = classes; case = case_at s v entry classes })) (sym (some_is g))
          (subst (λ (w : ℕ). Has (cases_at s w entry ++ unit_cases_from s (suc from) entries) (record { unit = unit_name s entry; number = r.0; classes = classes; case = case_at s v entry classes })) (sym same)
          (Has-left (unit_cases_from s (suc from) entries) r.1)),
    )
in_units s from (suc u) v (x ∷ entries) e entry g classes h =
    let r = in_units s (suc from) u v entries (omega (arith, e)) entry g classes h in
    (r.0, Has-right (cases_at s from x) r.1)

pub each_meets : (cases : List UnitCase) (sets : List KeptSet) → are_for cases sets ≡ true → AllMeet cases sets → (c : UnitCase) → Has cases c → (set : KeptSet) × Meets c.case set
each_meets [] sets e all c h = elim h [ ]
each_meets (x ∷ cases) [] e all c h = absurd (cc (e))
each_meets (x ∷ cases) (set ∷ sets) e all _ first = (set, all.0)
each_meets (x ∷ cases) (set ∷ sets) e all c (later h) = each_meets cases sets (right_of (is_for x set) _ e) all.1 c h
