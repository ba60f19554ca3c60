-- What a unit and the units of a plan come to.
use Rattle.std.specs.Prelude.{◌≡◌, ℕ, List}
use Rattle.law_obligations.specs.Outlines.{Entry, Script}
use Rattle.smv_problem.specs.declared.report.Verdict.TheVariants.{True}
use Rattle.smv_problem.specs.declared.report.UnitResult.{UnitResult}
use Rattle.law_reports.specs.Reports.{AllTrueUnits}
use Rattle.smv_proof.specs.declared.proof.KeptSet.{KeptSet}
use Rattle.law_checked_proofs.specs.Cases.{cases_at, unit_cases_from}
use Rattle.law_checked_proofs.specs.Resumed.{IsResultOf, AreResultsFrom, AreSetsOf}

-- for the sets of an old proof, and for budgets of nodes and of images
module _ (old : List KeptSet) (nodes images : ℕ) where
  -- the result of a unit, and where it is true a set for each of its cases, in order
  pub record IsUnitTried (s : Script) (u : ℕ) (entry : Entry) (r : UnitResult) (sets : List KeptSet) : Type 0 where
    pub result : IsResultOf old nodes images s u entry r
    pub kept : r.verdict ≡ True → AreSetsOf old nodes images (cases_at s u entry) sets

  -- a result for each of these units, in flat order, and where all are true a set for each of their cases, in order
  pub record ArePlanTried (s : Script) (entries : List Entry) (results : List UnitResult) (sets : List KeptSet) : Type 0 where
    pub told : AreResultsFrom old nodes images s 0 entries results
    pub kept : AllTrueUnits results → AreSetsOf old nodes images (unit_cases_from s 0 entries) sets
