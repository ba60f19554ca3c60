-- What is found of the cases of a unit that are asked for, and the lines of it.
use Rattle.std.specs.Prelude.{◌≡◌, ℕ, ◌-◌, List, [], ◌∷◌, length, slice_get, option_map, Option, Some, None}
use Rattle.std.specs.List.{flat_map}
use Rattle.smv_core.specs.declared.flat.Design.{Design}
use Rattle.smv_core.specs.declared.flat.Param.{Param}
use Rattle.smv_core.specs.declared.flat.Unit.{Unit as UnitData}
use Rattle.law_obligations.specs.Outlines.{Entry, unit_in}
use Rattle.law_splits.specs.Leaves.{name_of}
use Rattle.law_reports.specs.Lines.{verdict_lines}
use Rattle.smv_problem.specs.declared.report.Verdict.{Verdict}
use Rattle.smv_problem.specs.declared.report.Verdict.TheVariants.{True}
use Rattle.smv_proof.specs.declared.proof.KeptSet.{KeptSet}
use Rattle.smv_proof.specs.Documents.{document, set_lines}
use Rattle.smv_look_lines.specs.Cones.{count_line}
use Rattle.law_checked_proofs.specs.Cases.{UnitCase}
use Rattle.law_checked_proofs.specs.Kept.{AreKept}
use Rattle.law_checked_proofs.specs.Resumed.{IsToldBy}
use Rattle.smv_look_sets.specs.declared.sought.Sought.{Sought}
use Rattle.smv_look_sets.specs.declared.sought.Sought.TheVariants.{Sets, Open, NoCase}

-- the cases that are asked for: all of these, or that of a number from 1 on, which may not be there
abbrev pub asked_of : Option ℕ → List UnitCase → Option (List UnitCase)
asked_of None cases = Some cases
asked_of (Some number) cases = option_map (λ c. c ∷ []) (slice_get cases (number - 1))

-- for budgets of nodes and of images
module _ (nodes images : ℕ) where
  -- of cases that are asked for, what a document has of them, case by case; or what is told by them, in order, and that is not that they are true; or, where there is none, how many the unit has
  abbrev pub IsFoundOf : ℕ → Option (List UnitCase) → Sought → Type 0
  IsFoundOf all (Some cases) (Sets sets) = AreKept nodes images cases sets
  IsFoundOf all (Some cases) (Open verdict) = IsToldBy [] nodes images cases verdict × (verdict ≡ True → ⊥)
  IsFoundOf all None (NoCase count) = count ≡ all
  IsFoundOf all _ _ = ⊥

  -- so much is found of a unit with these cases, where all of them are asked for, or that of a number
  abbrev pub IsSought : List UnitCase → Option ℕ → Sought → Type 0
  IsSought cases case sought = IsFoundOf (length cases) (asked_of case cases) sought

-- what is found by a verdict, where these are the sets if it is true
abbrev pub found_in : Verdict → List KeptSet → Sought
found_in True sets = Sets sets
found_in verdict sets = Open verdict

-- a set of the case of another number
abbrev pub numbered : ℕ → KeptSet → KeptSet
numbered number set = record set { number = number }

-- ---- lines

-- what stands before the sets in the document of a text
abbrev pub front : List ℕ → List ℕ
front text = document (record { design = text; sets = [] })

-- those of a unit in a report
abbrev pub open_text : Design → UnitData → List Param → Verdict → List ℕ
open_text d unit params verdict = verdict_lines d (name_of d (unit_in d unit)) params verdict

-- those of what is found of the unit of an entry
abbrev pub sought_text : Design → Entry → Sought → List ℕ
sought_text d entry (Sets sets) = flat_map set_lines sets
sought_text d entry (Open verdict) = open_text d entry.unit entry.leaf.params verdict
sought_text d entry (NoCase count) = count_line d entry.unit count
