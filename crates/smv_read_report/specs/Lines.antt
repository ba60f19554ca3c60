-- What a line of a report says, by its pieces between blanks.
use Rattle.std.specs.Prelude.{ℕ, true, false, ◌&&◌, List, [], ◌∷◌, length, codes, Option, Some, None, if◌then◌else◌, ◌==◌}
use Rattle.std.specs.Str.{bytes_eq}
use Rattle.smv_read_report.specs.declared.line.Cells.{Cells}
use Rattle.smv_read_report.specs.declared.line.Line.{Line}
use Rattle.smv_read_report.specs.declared.line.Line.TheVariants.{True, Unknown, False, Case, Time, Proved, Other}
use Rattle.smv_read_report.specs.Pieces.{is_numeral, is_word, without_last}

-- a piece before these: it ends with a comma where there are more
abbrev pub before : List (List ℕ) → List ℕ → Option (List ℕ)
before [] piece = Some piece
before (_ ∷ _) piece = without_last 44 piece

-- a piece that is a word
abbrev pub word_in : Option (List ℕ) → Option (List ℕ)
word_in (Some word) = if is_word word then Some word else None
word_in None = None

abbrev pub word_onto : Option (List ℕ) → Option (List (List ℕ)) → Option (List (List ℕ))
word_onto (Some word) (Some words) = Some (word ∷ words)
word_onto _ _ = None

-- `v1, v2`
abbrev pub words_of : List (List ℕ) → Option (List (List ℕ))
words_of [] = Some []
words_of (piece ∷ more) = word_onto (word_in (before more piece)) (words_of more)

-- the value behind an element and a sign of equality
abbrev pub value_in : List ℕ → List ℕ → Option (List ℕ) → Option (List ℕ)
value_in element equals value = if is_word element && bytes_eq equals (codes "=") then word_in value else None

abbrev pub cell_onto : List ℕ → Option (List ℕ) → Option Cells → Option Cells
cell_onto element (Some value) (Some cells) = Some (record { elements = element ∷ cells.elements; values = value ∷ cells.values })
cell_onto element _ _ = None

-- `e1 = v1, e2 = v2`
abbrev pub cells_of : List (List ℕ) → Option Cells
cells_of [] = Some (record { elements = []; values = [] })
cells_of (element ∷ equals ∷ value ∷ more) = cell_onto element (value_in element equals (before more value)) (cells_of more)
cells_of _ = None

abbrev pub case_with : Option (List (List ℕ)) → Line
case_with (Some classes) = Case classes
case_with None = Other

-- behind ` case`
abbrev pub case_of : List (List ℕ) → Line
case_of [] = Other
case_of (piece ∷ more) = case_with (words_of (piece ∷ more))

abbrev pub time_with : Option (List ℕ) → Option Cells → Line
time_with (Some time) (Some cells) = Time time cells
time_with _ _ = Other

-- behind ` time`
abbrev pub time_of : List (List ℕ) → Line
time_of [] = Other
time_of (time ∷ cells) = time_with (without_last 58 time) (cells_of cells)

-- behind `proved`
abbrev pub proved_of : List (List ℕ) → Line
proved_of (proved ∷ word ∷ units ∷ []) = if bytes_eq word (codes "of") then Proved proved units else Other
proved_of _ = Other

-- `true`
abbrev pub of_one : List ℕ → Line
of_one told = if bytes_eq told (codes "true") then True else Other

-- `unknown steps`
abbrev pub of_two : List ℕ → List ℕ → Line
of_two told by = if bytes_eq told (codes "unknown") && bytes_eq by (codes "steps") then Unknown else Other

-- `false at T`, `unknown nodes COUNT`
abbrev pub of_three : List ℕ → List ℕ → List ℕ → List ℕ → Line
of_three name told by number =
    if bytes_eq told (codes "false") && bytes_eq by (codes "at") && is_numeral number then False name number else
    if bytes_eq told (codes "unknown") && bytes_eq by (codes "nodes") && is_numeral number then Unknown else
    Other

-- behind `NAME:`
abbrev pub verdict_of : List ℕ → List (List ℕ) → Line
verdict_of name (told ∷ []) = of_one told
verdict_of name (told ∷ by ∷ []) = of_two told by
verdict_of name (told ∷ by ∷ number ∷ []) = of_three name told by number
verdict_of name _ = Other

abbrev pub unit_of : Option (List ℕ) → List (List ℕ) → Line
unit_of (Some name) rest = if is_word name then verdict_of name rest else Other
unit_of None rest = Other

-- behind a blank
abbrev pub detail_of : List (List ℕ) → Line
detail_of [] = Other
detail_of (word ∷ rest) = if bytes_eq word (codes "case") then case_of rest else (if bytes_eq word (codes "time") then time_of rest else Other)

-- what a line says
abbrev pub line_of : List (List ℕ) → Line
line_of [] = Other
line_of (front ∷ rest) =
    if length front == 0 then detail_of rest else
    if bytes_eq front (codes "proved") then proved_of rest else
    unit_of (without_last 58 front) rest
