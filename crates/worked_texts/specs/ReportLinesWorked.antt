-- Worked reports: what is decided, and of how many units.
use Rattle.std.specs.Prelude.{◌≡◌, [], ◌∷◌, codes}
use Rattle.smv_core.specs.declared.flat.Design.{Design}
use Rattle.smv_problem.specs.declared.problem.AbsValue.TheVariants.{Number}
use Rattle.smv_problem.specs.declared.report.Verdict.{Verdict}
use Rattle.smv_problem.specs.declared.report.Verdict.TheVariants.{True, False, UnknownNodes, UnknownSteps}
use Rattle.law_reports.specs.Lines.{report_lines}
use Rattle.smv_report_lines.specs.Generated.{generated_lines}
use Rattle.worked_texts.specs.Designs.{boolean, case, design, element, family, report, state, told, written}

abbrev pub none : Design
none = design [] [] []

-- x : boolean
abbrev pub bit : Design
bit = design [] [] (family (codes "x") [] boolean ∷ [])

abbrev pub WithoutUnits : Type 0
WithoutUnits = report_lines (report none []) ≡ written (codes "proved 0 of 0" ∷ [])

abbrev pub TrueUnits : Type 0
TrueUnits = report_lines (report bit (told (codes "p") [] True ∷ [])) ≡ written (codes "p: true" ∷ codes "proved 1 of 1" ∷ [])

abbrev pub UnknownUnits : Type 0
UnknownUnits =
    (report_lines (report bit (told (codes "p") [] (UnknownNodes (case []) 4) ∷ [])) ≡ written (codes "p: unknown nodes 4" ∷ codes "proved 0 of 1" ∷ []))
    × (report_lines (report bit (told (codes "p") [] (UnknownSteps (case [])) ∷ [])) ≡ written (codes "p: unknown steps" ∷ codes "proved 0 of 1" ∷ []))

-- x begins as 0 and is 1 then
abbrev pub FalseUnits : Type 0
FalseUnits =
    report_lines (report bit (told (codes "p") [] (False (case []) (element 0 [] ∷ []) (state (Number 0 ∷ []) ∷ state (Number 1 ∷ []) ∷ [])) ∷ []))
    ≡ written (codes "p: false at 1" ∷ codes " time 0: x = 0" ∷ codes " time 1: x = 1" ∷ codes "proved 0 of 1" ∷ [])

abbrev pub violated : Verdict
violated = False (case []) (element 0 [] ∷ []) (state (Number 0 ∷ []) ∷ [])

abbrev pub ManyUnits : Type 0
ManyUnits =
    report_lines (report bit (told (codes "p") [] violated ∷ told (codes "q") [] True ∷ told (codes "m.x//spec") [] True ∷ told (codes "r") [] (UnknownSteps (case [])) ∷ []))
    ≡ written (codes "p: false at 0" ∷ codes " time 0: x = 0" ∷ codes "q: true" ∷ codes "m.x//spec: true" ∷ codes "r: unknown steps" ∷ codes "proved 2 of 4" ∷ [])

abbrev pub GeneratedDesigns : Type 0
GeneratedDesigns =
    (generated_lines 2 (report bit (told (codes "p0") [] True ∷ told (codes "p1") [] True ∷ told (codes "p2") [] True ∷ [])) ≡ written (codes "generated 2" ∷ codes "proved 3 of 3" ∷ []))
    × (generated_lines 10 (report bit (told (codes "p0") [] violated ∷ told (codes "p1") [] True ∷ [])) ≡ written (codes "generated 10" ∷ codes "proved 1 of 2" ∷ []))
