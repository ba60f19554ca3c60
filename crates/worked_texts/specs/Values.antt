-- Worked reports: values of each kind, as classes of parameters, as indexes and as what signals have.
use Rattle.std.specs.Prelude.{◌≡◌, [], ◌∷◌, codes}
use Rattle.smv_core.specs.declared.flat.Simple.TheVariants.{Range, Enum, Set}
use Rattle.smv_core.specs.declared.flat.Class.TheVariants as class
use Rattle.smv_core.specs.declared.flat.Design.{Design}
use Rattle.smv_problem.specs.declared.problem.AbsValue.TheVariants.{Number, Constant, Named, Rest}
use Rattle.smv_problem.specs.declared.report.Verdict.TheVariants.{True, False, UnknownNodes, UnknownSteps}
use Rattle.law_reports.specs.Lines.{report_lines}
use Rattle.worked_texts.specs.Designs.{boolean, case, design, element, family, ordinals, report, scalars, state, told, written}

-- x : array 0..1 of 0..0; n : 0..12
abbrev pub Numbers : Type 0
Numbers =
    report_lines (report (design [] [] (family (codes "x") (Range 0 1 ∷ []) (Range 0 0) ∷ family (codes "n") [] (Range 0 12) ∷ []))
    (told (codes "p") (Range 0 255 ∷ []) (False (case (class.Number 17 ∷ [])) (element 0 (class.Number 0 ∷ []) ∷ element 0 (class.Number 1 ∷ []) ∷ element 1 [] ∷ []) (state (Number 0 ∷ Number 0 ∷ Number 12 ∷ []) ∷ [])) ∷ []))
    ≡ written (codes "p: false at 0" ∷ codes " case 17" ∷ codes " time 0: x[0] = 0, x[1] = 0, n = 12" ∷ codes "proved 0 of 1" ∷ [])

-- c : {red, green}; d : {green, blue}
abbrev pub Constants : Type 0
Constants =
    report_lines (report (design [] ((codes "red" ∷ codes "green" ∷ []) ∷ (codes "green" ∷ codes "blue" ∷ []) ∷ []) (family (codes "c") [] (Enum 0) ∷ family (codes "d") [] (Enum 1) ∷ []))
    (told (codes "p") [] (False (case []) (element 0 [] ∷ element 1 [] ∷ []) (state (Constant 1 ∷ Constant 1 ∷ []) ∷ state (Constant 0 ∷ Constant 0 ∷ []) ∷ [])) ∷ []))
    ≡ written (codes "p: false at 1" ∷ codes " time 0: c = green, d = blue" ∷ codes " time 1: c = red, d = green" ∷ codes "proved 0 of 1" ∷ [])

-- scalarset P; a : P; st.va : array P of P; f : array P of array P of P
abbrev pub machine : Design
machine = design (scalars (codes "P") ∷ []) [] (family (codes "a") [] (Set 0) ∷ family (codes "st.va") (Set 0 ∷ []) (Set 0) ∷ family (codes "f") (Set 0 ∷ Set 0 ∷ []) boolean ∷ [])

-- a scalarset has one rest, which is not numbered
abbrev pub Scalarsets : Type 0
Scalarsets =
    report_lines (report machine (told (codes "st.va//lem") (Set 0 ∷ Set 0 ∷ Set 0 ∷ Set 0 ∷ []) (False (case (class.Named 0 ∷ class.Named 1 ∷ class.Named 0 ∷ class.Rest 0 ∷ []))
    (element 0 [] ∷ element 1 (class.Named 0 ∷ []) ∷ element 2 (class.Named 1 ∷ class.Named 0 ∷ []) ∷ []) (state (Rest 0 ∷ Named 2 ∷ Number 1 ∷ []) ∷ []))
    ∷ told (codes "a//lem") (Set 0 ∷ []) (UnknownNodes (case (class.Named 0 ∷ [])) 1000001) ∷ told (codes "f//lem") (Set 0 ∷ Set 0 ∷ []) (UnknownSteps (case (class.Named 0 ∷ class.Named 1 ∷ [])))
    ∷ told (codes "q") (Set 0 ∷ []) True ∷ []))
    ≡ written (codes "st.va//lem: false at 0" ∷ codes " case #0, #1, #0, *" ∷ codes " time 0: a = *, st.va[#0] = #2, f[#1][#0] = 1" ∷ codes "a//lem: unknown nodes 1000001" ∷ codes " case #0"
    ∷ codes "f//lem: unknown steps" ∷ codes " case #0, #1" ∷ codes "q: true" ∷ codes "proved 1 of 4" ∷ [])

-- an ordset has a rest below its classes, between two of them and above them: scalarset P; ordset I; w : array I of I; x : array I of boolean
abbrev pub Ordsets : Type 0
Ordsets =
    report_lines (report (design (scalars (codes "P") ∷ ordinals (codes "I") ∷ []) [] (family (codes "w") (Set 1 ∷ []) (Set 1) ∷ family (codes "x") (Set 1 ∷ []) boolean ∷ []))
    (told (codes "x//L") (Set 1 ∷ []) True ∷ told (codes "p") (Set 1 ∷ Set 1 ∷ []) (False (case (class.Named 1 ∷ class.Named 0 ∷ []))
    (element 0 (class.Named 0 ∷ []) ∷ element 0 (class.Named 1 ∷ []) ∷ element 1 (class.Named 0 ∷ []) ∷ element 1 (class.Named 1 ∷ []) ∷ []) (state (Rest 0 ∷ Named 0 ∷ Number 0 ∷ Number 0 ∷ []) ∷ [])) ∷ []))
    ≡ written (codes "x//L: true" ∷ codes "p: false at 0" ∷ codes " case #1, #0" ∷ codes " time 0: w[#0] = *0, w[#1] = #0, x[#0] = 0, x[#1] = 0" ∷ codes "proved 1 of 2" ∷ [])

-- a case without elements
abbrev pub NothingKept : Type 0
NothingKept =
    report_lines (report machine (told (codes "p") [] (False (case []) [] (state [] ∷ state [] ∷ [])) ∷ [])) ≡ written (codes "p: false at 1" ∷ codes " time 0:" ∷ codes " time 1:" ∷ codes "proved 0 of 1" ∷ [])
