-- The path of a false unit as a table: a row for each element, a column for each time, and `.` where a value is that of the time before.
use Rattle.std.specs.Prelude.{ℕ, zero, suc, ◌+◌, ◌-◌, max, List, [], ◌∷◌, ◌++◌, codes, flat_map, get_or, length, map, if◌then◌else◌}
use Rattle.std.specs.Fmt.{decimal}
use Rattle.std.specs.Str.{bytes_eq}
use Rattle.smv_read_report.specs.declared.reading.FalseUnit.{FalseUnit}

-- each line ends with the byte 10
abbrev pub line : List ℕ → List ℕ
line text = text ++ 10 ∷ []

-- so many blanks
abbrev pub blanks : ℕ → List ℕ
blanks zero = []
blanks (suc n) = 32 ∷ blanks n

-- the length of the longest of some texts
abbrev pub widest : List (List ℕ) → ℕ
widest [] = 0
widest (text ∷ texts) = max (length text) (widest texts)

-- the same of the values of all states
abbrev pub widest_value : List (List (List ℕ)) → ℕ
widest_value [] = 0
widest_value (state ∷ states) = max (widest state) (widest_value states)

-- what is shown of a value behind another: `.` where it is the same
abbrev pub change : List ℕ → List ℕ → List ℕ
change old new = if bytes_eq old new then codes "." else new

-- the same of all values that follow one
abbrev pub shown_after : List ℕ → List (List ℕ) → List (List ℕ)
shown_after old [] = []
shown_after old (new ∷ values) = change old new ∷ shown_after new values

-- what is shown of the values of an element, time by time
abbrev pub shown : List (List ℕ) → List (List ℕ)
shown [] = []
shown (first ∷ values) = first ∷ shown_after first values

-- the value in a state of the element of this number
abbrev pub value_of : ℕ → List (List ℕ) → List ℕ
value_of place state = get_or state place []

-- a cell of a column so wide: two blanks, and its text at the right
abbrev pub cell : ℕ → List ℕ → List ℕ
cell width text = codes "  " ++ blanks (width - length text) ++ text

-- the times of some states, from this one on
abbrev pub time_cells : ℕ → ℕ → List (List (List ℕ)) → List ℕ
time_cells width time [] = []
time_cells width time (state ∷ states) = cell width (decimal time) ++ time_cells width (time + 1) states

-- the line of times, above the rows
abbrev pub time_row : ℕ → ℕ → List (List (List ℕ)) → List ℕ
time_row names width states = line (codes " " ++ blanks names ++ time_cells width 0 states)

-- the row of the element of this number
abbrev pub row : ℕ → ℕ → ℕ → List (List (List ℕ)) → List ℕ → List ℕ
row names width place states element = line (codes " " ++ element ++ blanks (names - length element) ++ flat_map (cell width) (shown (map (value_of place) states)))

-- the rows of the elements from this number on
abbrev pub rows : ℕ → ℕ → ℕ → List (List (List ℕ)) → List (List ℕ) → List ℕ
rows names width place states [] = []
rows names width place states (element ∷ elements) = row names width place states element ++ rows names width (place + 1) states elements

-- as wide as the longest value, and as the last time
abbrev pub width_of : List (List (List ℕ)) → ℕ
width_of states = max (widest_value states) (length (decimal (length states - 1)))

-- ` case #0, #1`
abbrev pub case_lines : List (List ℕ) → List ℕ
case_lines [] = []
case_lines (class ∷ classes) = line (codes " case " ++ class ++ flat_map (λ other. codes ", " ++ other) classes)

-- `in_order: false at 2`
abbrev pub head_line : FalseUnit → List ℕ
head_line unit = line (unit.name ++ codes ": false at " ++ decimal (length unit.states - 1))

abbrev pub table : FalseUnit → List ℕ
table unit =
    head_line unit
    ++ case_lines unit.case
    ++ time_row (widest unit.elements) (width_of unit.states) unit.states
    ++ rows (widest unit.elements) (width_of unit.states) 0 unit.states unit.elements

-- those of the false units of a report, in their order
abbrev pub tables : List FalseUnit → List ℕ
tables units = flat_map table units
