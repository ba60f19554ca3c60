-- What a unit that is true leans on: the units that its proof uses, of which its verdict takes for granted that they hold, where they are false or unknown.
use Rattle.std.specs.Prelude.{ℕ, List, [], ◌∷◌, ◌++◌, codes, flat_map, slice_get, Option, Some, None}
use Rattle.smv_core.specs.Values.{Name}
use Rattle.smv_core.specs.declared.flat.Choice.{Choice}
use Rattle.smv_core.specs.declared.flat.Pick.{Pick}
use Rattle.smv_core.specs.declared.flat.Assumed.{Assumed}
use Rattle.law_obligations.specs.Outlines.{Outline, claim_unit, picked_unit}
use Rattle.law_reports.specs.Lines.{line}
use Rattle.smv_problem.specs.declared.report.Verdict.{Verdict}
use Rattle.smv_problem.specs.declared.report.Verdict.TheVariants.{True, False, UnknownNodes, UnknownSteps}
use Rattle.smv_problem.specs.declared.report.UnitResult.{UnitResult}
use Rattle.smv_report_lines.specs.Parts.{heading}

-- ` leans on NAME, which is false`
abbrev pub lean_line : Name → List ℕ → List ℕ
lean_line name word = line (codes " leans on " ++ name ++ codes ", which is " ++ word)

-- of a unit that is used
abbrev pub lean_text : Name → Verdict → List ℕ
lean_text name True = []
lean_text name (False case elements path) = lean_line name (codes "false")
lean_text name (UnknownNodes case count) = lean_line name (codes "unknown")
lean_text name (UnknownSteps case) = lean_line name (codes "unknown")

abbrev pub lean_of : Option UnitResult → List ℕ
lean_of None = []
lean_of (Some r) = lean_text r.name r.verdict

-- of the unit at a place; a base definition and a free family are none
abbrev pub lean_at : List UnitResult → Option ℕ → List ℕ
lean_at results None = []
lean_at results (Some v) = lean_of (slice_get results v)

module _ (o : Outline) (results : List UnitResult) where
  -- a chosen definition in a layer is the unit of that map, an assumed claim is that claim's unit
  abbrev pub pick_lean : Pick → List ℕ
  pick_lean p = lean_at results (picked_unit o p)

  abbrev pub claim_lean : Assumed → List ℕ
  claim_lean used = lean_at results (claim_unit o used.claim)

  abbrev pub leans : Choice → List ℕ
  leans choice = flat_map pick_lean choice.picks ++ flat_map claim_lean choice.claims

-- lines below a line, and nothing where there are none
abbrev pub under : List ℕ → List ℕ → List ℕ
under head [] = []
under head (byte ∷ lines) = head ++ byte ∷ lines

abbrev pub true_lines : Outline → List UnitResult → Choice → UnitResult → List ℕ
true_lines o results choice r = under (heading r.name r.verdict) (leans o results choice)
