-- What the lines of a report say together: its false units with their paths, or the first line that is not as a report has it.
use Rattle.std.specs.Prelude.{◌≡◌, ℕ, ◌+◌, Bool, true, false, ◌&&◌, ◌||◌, List, [], ◌∷◌, ◌++◌, length, Option, Some, None, Result, Ok, Err, if◌then◌else◌, ◌==◌}
use Rattle.std.specs.Fmt.{decimal}
use Rattle.std.specs.List.{count_by}
use Rattle.std.specs.Str.{bytes_eq}
use Rattle.std.specs.Cmp.Lexicographic.{pointwise}
use Rattle.smv_read_report.specs.declared.line.Cells.{Cells}
use Rattle.smv_read_report.specs.declared.line.Line.{Line}
use Rattle.smv_read_report.specs.declared.line.Line.TheVariants.{True, Unknown, False, Case, Time, Proved, Other}
use Rattle.smv_read_report.specs.declared.reading.FalseUnit.{FalseUnit}
use Rattle.smv_read_report.specs.declared.reading.Due.{Due}
use Rattle.smv_read_report.specs.declared.reading.Due.TheVariants as due
use Rattle.smv_read_report.specs.declared.reading.Reading.{Reading}
use Rattle.smv_read_report.specs.declared.reading.ReportFault.{ReportFault}
use Rattle.smv_read_report.specs.declared.reading.ReadFailure.{ReadFailure}
use Rattle.smv_read_report.specs.declared.reading.ReadFailure.TheVariants.{Fault, OutOfMemory}
use Rattle.smv_read_report.specs.Pieces.{pieces}
use Rattle.smv_read_report.specs.Lines.{line_of}

-- a unit whose path is not read yet
abbrev pub begun : List ℕ → FalseUnit
begun name = record { name = name; case = []; elements = []; states = [] }

-- the last line tells how many units are true, and how many there are
abbrev pub is_count : List Bool → List ℕ → List ℕ → Bool
is_count told proved units = bytes_eq proved (decimal (count_by (λ b. b) told)) && bytes_eq units (decimal (length told))

-- a unit begins, or the report ends
abbrev pub at_unit : List FalseUnit → List Bool → Line → Option Reading
at_unit found told True = Some (record { found = found; told = told ++ true ∷ []; due = due.Unit })
at_unit found told Unknown = Some (record { found = found; told = told ++ false ∷ []; due = due.Case })
at_unit found told (False name last) = Some (record { found = found; told = told ++ false ∷ []; due = due.State (begun name) last })
at_unit found told (Proved proved units) = if is_count told proved units then Some (record { found = found; told = told; due = due.Nothing }) else None
at_unit found told _ = None

-- the same, or the case of an unknown unit
abbrev pub at_case : List FalseUnit → List Bool → Line → Option Reading
at_case found told (Case classes) = Some (record { found = found; told = told; due = due.Unit })
at_case found told line = at_unit found told line

-- the state fits: it is that of the next time, and of the same elements in the same order
abbrev pub is_next : FalseUnit → List ℕ → Cells → Bool
is_next unit time cells = bytes_eq time (decimal (length unit.states)) && (length unit.states == 0 || pointwise bytes_eq unit.elements cells.elements)

abbrev pub grown : FalseUnit → Cells → FalseUnit
grown unit cells = record { name = unit.name; case = unit.case; elements = cells.elements; states = unit.states ++ cells.values ∷ [] }

-- a path ends with its last time
abbrev pub after_state : List FalseUnit → List Bool → FalseUnit → Bool → List ℕ → Reading
after_state found told unit true last = record { found = found ++ unit ∷ []; told = told; due = due.Unit }
after_state found told unit false last = record { found = found; told = told; due = due.State unit last }

-- the next state of a path; before the first there may be the case
abbrev pub at_state : List FalseUnit → List Bool → FalseUnit → List ℕ → Line → Option Reading
at_state found told unit last (Case classes) =
    if length unit.states == 0 && length unit.case == 0 then Some (record { found = found; told = told; due = due.State (record { name = unit.name; case = classes; elements = unit.elements; states = unit.states }) last }) else None
at_state found told unit last (Time time cells) = if is_next unit time cells then Some (after_state found told (grown unit cells) (bytes_eq time last) last) else None
at_state found told unit last _ = None

-- what is read with one more line, where that line may stand there
abbrev pub with_due : List FalseUnit → List Bool → Due → Line → Option Reading
with_due found told due.Unit line = at_unit found told line
with_due found told due.Case line = at_case found told line
with_due found told (due.State unit last) line = at_state found told unit last line
with_due found told due.Nothing line = None

abbrev pub with_line : Reading → Line → Option Reading
with_line reading line = with_due reading.found reading.told reading.due line

-- fault 1: a line of no form
abbrev pub is_other : Line → Bool
is_other Other = true
is_other _ = false

-- fault 2: a line that may not stand there
abbrev pub line_fault : Line → ℕ
line_fault line = if is_other line then 1 else 2

abbrev pub is_whole : Due → Bool
is_whole due.Nothing = true
is_whole _ = false

-- the text ends behind a line feed, and the report is whole; or else fault 3
abbrev pub at_end : ℕ → Reading → List ℕ → Result (List FalseUnit) ReportFault
at_end n reading rest = if length rest == 0 && is_whole reading.due then Ok reading.found else Err (record { number = 3; line = n })

-- what is read of what follows a line, where that line may stand there
abbrev pub followed : Option Reading → (Reading → Result (List FalseUnit) ReportFault) → ReportFault → Result (List FalseUnit) ReportFault
followed (Some reading) rest fault = rest reading
followed None rest fault = Err fault

-- what is read from line n on
abbrev pub read_from : ℕ → Reading → List (List ℕ) → Result (List FalseUnit) ReportFault
read_from n reading [] = at_end n reading []
read_from n reading (rest ∷ []) = at_end n reading rest
read_from n reading (line ∷ other ∷ more) =
    followed (with_line reading (line_of (pieces 32 line))) (λ next. read_from (n + 1) next (other ∷ more)) (record { number = line_fault (line_of (pieces 32 line)); line = n })

abbrev pub nothing_read : Reading
nothing_read = record { found = []; told = []; due = due.Unit }

-- the false units of a report in their order, or the first fault of a text that is no report; lines count from 1
unfoldable pub report_of : List ℕ → Result (List FalseUnit) ReportFault
report_of text = read_from 1 nothing_read (pieces 10 text)

-- why nothing was read: the text's fault, or want of memory
abbrev pub Tells : ReadFailure → Result (List FalseUnit) ReportFault → Type 0
Tells (Fault fault) (Ok units) = ⊥
Tells (Fault fault) (Err other) = other ≡ fault
Tells OutOfMemory read = Unit {0}
