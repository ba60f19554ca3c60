-- Worked faults of texts that are no reports.
use Rattle.std.specs.Prelude.{◌≡◌, [], ◌∷◌, ◌++◌, codes}
use Rattle.smv_read_report.specs.Reports.{report_of}
use Rattle.smv_wave_run.specs.Dues.{answer_for}
use Rattle.worked_texts.specs.Dumps.{answer}

-- lines of no form
abbrev pub Forms : Type 0
Forms =
    (answer (codes "scalarset P undefined;" ∷ []) ≡ codes "fault 1 at line 1" ++ 10 ∷ [])
    × (answer (codes "p: false at 0" ∷ codes " time 0: x= 1" ∷ codes "proved 0 of 1" ∷ []) ≡ codes "fault 1 at line 2" ++ 10 ∷ [])
    × (answer (codes "p: false at 0" ∷ codes " time 0: x = 1," ∷ codes "proved 0 of 1" ∷ []) ≡ codes "fault 1 at line 2" ++ 10 ∷ [])
    × (answer (codes "p: true" ∷ [] ∷ codes "proved 1 of 1" ∷ []) ≡ codes "fault 1 at line 2" ++ 10 ∷ [])
    × (answer (codes "p: true " ∷ codes "proved 1 of 1" ∷ []) ≡ codes "fault 1 at line 1" ++ 10 ∷ [])

-- lines that may not stand there: the case of a true unit, a time too late, other elements than before, a unit within a path, a line behind the last
abbrev pub Places : Type 0
Places =
    (answer (codes "p: true" ∷ codes " case 1" ∷ codes "proved 1 of 1" ∷ []) ≡ codes "fault 2 at line 2" ++ 10 ∷ [])
    × (answer (codes "p: false at 1" ∷ codes " time 1: x = 1" ∷ codes "proved 0 of 1" ∷ []) ≡ codes "fault 2 at line 2" ++ 10 ∷ [])
    × (answer (codes "p: false at 1" ∷ codes " time 0: x = 1" ∷ codes " time 1: y = 1" ∷ codes "proved 0 of 1" ∷ []) ≡ codes "fault 2 at line 3" ++ 10 ∷ [])
    × (answer (codes "p: false at 1" ∷ codes " time 0: x = 1" ∷ codes "q: true" ∷ codes "proved 1 of 2" ∷ []) ≡ codes "fault 2 at line 3" ++ 10 ∷ [])
    × (answer (codes "proved 0 of 0" ∷ codes "p: true" ∷ []) ≡ codes "fault 2 at line 2" ++ 10 ∷ [])

-- the last line tells the numbers of the units above it
abbrev pub Counts : Type 0
Counts =
    (answer (codes "p: true" ∷ codes "proved 0 of 1" ∷ []) ≡ codes "fault 2 at line 2" ++ 10 ∷ [])
    × (answer (codes "p: true" ∷ codes "proved 1 of 01" ∷ []) ≡ codes "fault 2 at line 2" ++ 10 ∷ [])

-- a text that ends before the last line does
abbrev pub Early : Type 0
Early =
    (answer [] ≡ codes "fault 3 at line 1" ++ 10 ∷ [])
    × (answer (codes "p: true" ∷ []) ≡ codes "fault 3 at line 2" ++ 10 ∷ [])
    × (answer_for (report_of (codes "proved 0 of 0")) ≡ codes "fault 3 at line 1" ++ 10 ∷ [])

-- the lines of a generated design have no units in them
abbrev pub OfGenerated : Type 0
OfGenerated = answer (codes "generated 3" ∷ codes "proved 9 of 9" ∷ []) ≡ codes "fault 1 at line 1" ++ 10 ∷ []
