-- Verdicts that begin from the sets of an old proof.
use Rattle.std.specs.Prelude.{◌≡◌, ◌⊎◌, ℕ, suc, ◌*◌, true, false, if◌then◌else◌, List, [], ◌∷◌, ◌++◌, Option, Some, None}
use Rattle.smv_core.specs.declared.tree.Text.{Text}
use Rattle.law_events.specs.Events.{Event, IsFirstEvent}
use Rattle.law_events.specs.Events.Event.{Counted, Reached, Shut, Images}
use Rattle.law_obligations.specs.Sets.{Has}
use Rattle.law_obligations.specs.Outlines.{Entry, Script}
use Rattle.law_obligations.specs.Readings.{state_bits}
use Rattle.smv_problem.specs.declared.report.Verdict.{Verdict as Told}
use Rattle.smv_problem.specs.declared.report.Verdict.TheVariants.{True, False, UnknownNodes, UnknownSteps}
use Rattle.smv_problem.specs.declared.report.UnitResult.{UnitResult}
use Rattle.smv_problem.specs.declared.report.Report.{Report}
use Rattle.law_reports.specs.CaseLists.{case_lists}
use Rattle.law_reports.specs.Verdicts.{is_shut}
use Rattle.law_reports.specs.Reports.{IsShown}
use Rattle.law_valid_texts.specs.Reports.{IsValid, script_of_tree}
use Rattle.smv_proof.specs.declared.proof.KeptSet.{KeptSet}
use Rattle.smv_proof.specs.declared.proof.Proof.{Proof}
use Rattle.smv_proof.specs.Meanings.{is_below}
use Rattle.law_checked_proofs.specs.Cases.{UnitCase, unit_name, cases_at, cases_of}
use Rattle.law_checked_proofs.specs.Checked.{is_for, Meets}
use Rattle.law_checked_proofs.specs.Kept.{IsKept}

-- the first of these sets that is of this unit and case
abbrev pub old_set : UnitCase → List KeptSet → Option KeptSet
old_set c [] = None
old_set c (set ∷ sets) = if is_for c set then Some set else old_set c sets

-- over the state bits of the case, and it meets the four conditions of induction
abbrev pub Serves : UnitCase → KeptSet → Type 0
Serves c set = (is_below (2 * state_bits c.case) set ≡ true) × Meets c.case set

-- for the sets of an old proof, and for budgets of nodes and of images
module _ (old : List KeptSet) (nodes images : ℕ) where
  -- the first old set of the case still serves
  abbrev pub Stands : UnitCase → Type 0
  Stands c = (set : KeptSet) × (old_set c old ≡ Some set) × Serves c set

  -- true: by its old set, or by a search
  abbrev pub IsTrue : UnitCase → Type 0
  IsTrue c = Stands c ⊎ ((k : ℕ) × IsFirstEvent (case_lists c.case) nodes images (Shut k))

  -- all of these cases are
  abbrev pub AreTrue : List UnitCase → Type 0
  AreTrue cases = (c : UnitCase) → Has cases c → IsTrue c

  -- the first case that is not true
  pub record FailsFirst (cases : List UnitCase) (c : UnitCase) (v : Event) : Type 0 where
    pub before : List UnitCase
    pub behind : List UnitCase
    pub stands : cases ≡ before ++ (c ∷ behind)
    pub are_true : AreTrue before
    pub is_verdict : IsFirstEvent (case_lists c.case) nodes images v
    pub is_not : is_shut v ≡ false
    pub is_new : Stands c → ⊥

  -- what is told by cases: true, or the verdict of the first that is not, and a false one is shown by a shortest violating path
  abbrev pub IsToldBy : List UnitCase → Told → Type 0
  IsToldBy cases True = AreTrue cases
  IsToldBy cases (False case elements path) = (c : UnitCase) × (c.classes ≡ case.classes) × ((k : ℕ) × FailsFirst cases c (Reached k) × IsShown c.case k elements path)
  IsToldBy cases (UnknownNodes case count) = (c : UnitCase) × (c.classes ≡ case.classes) × FailsFirst cases c (Counted count)
  IsToldBy cases (UnknownSteps case) = (c : UnitCase) × (c.classes ≡ case.classes) × FailsFirst cases c Images

  -- the result of the unit at this place: its name, the parameters of its leaf, and what is told by its cases
  pub record IsResultOf (s : Script) (u : ℕ) (entry : Entry) (r : UnitResult) : Type 0 where
    pub name : r.name ≡ unit_name s entry
    pub params : r.params ≡ entry.leaf.params
    pub verdict : IsToldBy (cases_at s u entry) r.verdict

  -- the results of the units from a place on, in flat order
  abbrev pub AreResultsFrom : Script → ℕ → List Entry → List UnitResult → Type 0
  AreResultsFrom s u [] [] = Unit {0}
  AreResultsFrom s u (entry ∷ entries) (r ∷ results) = IsResultOf s u entry r × AreResultsFrom s (suc u) entries results
  AreResultsFrom s u _ _ = ⊥

  -- a report of the verdicts that begin from the old sets, of a valid text
  pub record IsResumedReport (text : List ℕ) (report : Report) : Type 0 where
    pub tree : Text
    pub is_valid : IsValid text tree
    pub design : report.design ≡ (script_of_tree tree).design
    pub units : AreResultsFrom (script_of_tree tree) 0 (script_of_tree tree).entries report.units

  -- the old set where it serves, and else what is kept of the search
  abbrev pub IsSetOf : UnitCase → KeptSet → Type 0
  IsSetOf c set = ((old_set c old ≡ Some set) × Serves c set) ⊎ ((Stands c → ⊥) × IsKept nodes images c set)

  -- so is each of these sets, case by case
  abbrev pub AreSetsOf : List UnitCase → List KeptSet → Type 0
  AreSetsOf [] [] = Unit {0}
  AreSetsOf (c ∷ cases) (set ∷ sets) = IsSetOf c set × AreSetsOf cases sets
  AreSetsOf _ _ = ⊥

  -- the text is valid, and the proof holds it with such a set for each case of each unit, in order
  pub record IsResumedProof (text : List ℕ) (proof : Proof) : Type 0 where
    pub tree : Text
    pub is_valid : IsValid text tree
    pub design : proof.design ≡ text
    pub are_sets : AreSetsOf (cases_of tree) proof.sets
