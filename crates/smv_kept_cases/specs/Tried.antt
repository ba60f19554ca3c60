-- What is tried of a case: the old set that is given for it, and then a search.
use Rattle.std.specs.Prelude.{◌≡◌, ◌⊎◌, ◌*◌, ℕ, true, List, Option, Some, None}
use Rattle.bdd_store.specs.declared.Ref.{Ref}
use Rattle.smv_search.specs.declared.Outcome.{Outcome}
use Rattle.smv_search.specs.declared.Outcome.TheVariants.{Closed, Reaches, OutOfNodes, OutOfSteps}
use Rattle.law_events.specs.Events.{IsFirstEvent}
use Rattle.law_events.specs.Events.Event.{Counted, Reached, Images}
use Rattle.law_obligations.specs.Readings.{PosedCase, state_bits}
use Rattle.smv_problem.specs.declared.report.Verdict.{Verdict}
use Rattle.smv_problem.specs.declared.report.Verdict.TheVariants.{True, False, UnknownNodes, UnknownSteps}
use Rattle.law_reports.specs.CaseLists.{case_lists}
use Rattle.law_reports.specs.Reports.{IsShown}
use Rattle.smv_proof.specs.declared.proof.KeptSet.{KeptSet}
use Rattle.smv_proof.specs.Meanings.{is_below}
use Rattle.law_checked_proofs.specs.Cases.{UnitCase}
use Rattle.law_checked_proofs.specs.Checked.{Meets}
use Rattle.law_checked_proofs.specs.Kept.{IsKept}
use Rattle.law_checked_proofs.specs.Resumed.{Serves, IsToldBy, AreSetsOf}
use Rattle.smv_kept_cases.specs.declared.cases.Tried.{Tried}
use Rattle.smv_kept_cases.specs.declared.cases.Tried.TheVariants as tried
use Rattle.smv_kept_cases.specs.declared.cases.Place.{Place}

-- a set is over the state bits of a case, and it meets the four conditions of induction
abbrev pub ServesFor : PosedCase → KeptSet → Type 0
ServesFor c set = (is_below (2 * state_bits c) set ≡ true) × Meets c set

-- the set that closed a search
abbrev pub closed_in : Outcome → Option Ref
closed_in (Closed set) = Some set
closed_in (Reaches depth rings) = None
closed_in (OutOfNodes count) = None
closed_in OutOfSteps = None

-- the case at a place, posed so
abbrev pub case_at_place : Place → PosedCase → UnitCase
case_at_place place c = record { unit = place.unit.now; number = place.number; classes = place.case.now.classes; case = c }

-- for budgets of nodes and of images
module _ (nodes images : ℕ) where
  -- what a search says of a case that is not true
  abbrev pub IsOpen : UnitCase → Verdict → Type 0
  IsOpen c True = ⊥
  IsOpen c (False case elements path) = (c.classes ≡ case.classes) × ((k : ℕ) × IsFirstEvent (case_lists c.case) nodes images (Reached k) × IsShown c.case k elements path)
  IsOpen c (UnknownNodes case count) = (c.classes ≡ case.classes) × IsFirstEvent (case_lists c.case) nodes images (Counted count)
  IsOpen c (UnknownSteps case) = (c.classes ≡ case.classes) × IsFirstEvent (case_lists c.case) nodes images Images

  -- what a search says of a case
  abbrev pub IsSearched : UnitCase → Tried → Type 0
  IsSearched c (tried.True set) = IsKept nodes images c set
  IsSearched c (tried.Open verdict) = IsOpen c verdict

  -- this old set of the case, if there is one, serves
  abbrev pub StandsBy : Option KeptSet → UnitCase → Type 0
  StandsBy old c = (set : KeptSet) × (old ≡ Some set) × Serves c set

  -- true with the old set where it serves, and else what a search says
  abbrev pub IsTried : Option KeptSet → UnitCase → Tried → Type 0
  IsTried old c (tried.True set) = ((old ≡ Some set) × Serves c set) ⊎ ((StandsBy old c → ⊥) × IsKept nodes images c set)
  IsTried old c (tried.Open verdict) = (StandsBy old c → ⊥) × IsOpen c verdict

-- for the sets of an old proof, and for budgets of nodes and of images
module _ (old : List KeptSet) (nodes images : ℕ) where
  -- the verdict of these cases, and where it is true a set for each of them, in order
  pub record IsLeafTried (cases : List UnitCase) (verdict : Verdict) (sets : List KeptSet) : Type 0 where
    pub told : IsToldBy old nodes images cases verdict
    pub kept : verdict ≡ True → AreSetsOf old nodes images cases sets
