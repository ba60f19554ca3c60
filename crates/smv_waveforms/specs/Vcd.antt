-- The value change dump of false units, by IEEE 1364: a scope for each unit, and the states of all paths side by side from time 0 on. A text is a variable of type `string`, as GTKWave reads it.
use Rattle.std.specs.Prelude.{ℕ, ◌+◌, ◌==◌, ◌&&◌, ◌||◌, nat_le, List, [], ◌∷◌, ◌++◌, length, codes, Bool, false, if◌then◌else◌}
use Rattle.std.specs.Fmt.{decimal}
use Rattle.std.specs.List.{list_all}
use Rattle.std.specs.Str.{bytes_eq}
use Rattle.smv_read_report.specs.Pieces.{is_digit}
use Rattle.smv_read_report.specs.declared.reading.FalseUnit.{FalseUnit}
use Rattle.smv_waveforms.specs.declared.values.Kind.{Kind}
use Rattle.smv_waveforms.specs.declared.values.Kind.TheVariants.{Bits, Text}
use Rattle.smv_waveforms.specs.Values.{code_of, kinds_of, value_text}

-- each line ends with the byte 10
abbrev pub line : List ℕ → List ℕ
line text = text ++ 10 ∷ []

-- ---- declarations

abbrev pub is_letter : ℕ → Bool
is_letter b = nat_le 65 b && nat_le b 90 || nat_le 97 b && nat_le b 122 || b == 95

abbrev pub is_name_byte : ℕ → Bool
is_name_byte b = is_letter b || is_digit b

-- an identifier that needs no escape
abbrev pub is_simple : List ℕ → Bool
is_simple [] = false
is_simple (b ∷ bytes) = is_letter b && list_all is_name_byte bytes

-- a name as an identifier: behind `\` where it has other bytes than letters, digits and `_`
abbrev pub identifier : List ℕ → List ℕ
identifier name = if is_simple name then name else 92 ∷ name

abbrev pub kind_text : Kind → List ℕ
kind_text (Bits width) = codes "wire " ++ decimal width
kind_text Text = codes "string 1"

-- the variable of an element
abbrev pub var_line : ℕ → Kind → List ℕ → List ℕ
var_line n kind element = line (codes "$var " ++ kind_text kind ++ codes " " ++ code_of n ++ codes " " ++ identifier element ++ codes " $end")

-- a variable for each element, with codes from this one on
abbrev pub var_lines : ℕ → List Kind → List (List ℕ) → List ℕ
var_lines n (kind ∷ kinds) (element ∷ elements) = var_line n kind element ++ var_lines (n + 1) kinds elements
var_lines n _ _ = []

-- parts with a comma between them
abbrev pub with_commas : List (List ℕ) → List ℕ
with_commas [] = []
with_commas (part ∷ []) = part
with_commas (part ∷ other ∷ parts) = part ++ codes ", " ++ with_commas (other ∷ parts)

abbrev pub comment_line : List (List ℕ) → List ℕ
comment_line parts = line (codes "$comment case " ++ with_commas parts ++ codes " $end")

-- the case of a unit that has parameters
abbrev pub case_lines : List (List ℕ) → List ℕ
case_lines [] = []
case_lines (part ∷ parts) = comment_line (part ∷ parts)

abbrev pub scope_head : List ℕ → List ℕ
scope_head name = line (codes "$scope module " ++ identifier name ++ codes " $end")

abbrev pub scope_lines : ℕ → FalseUnit → List ℕ
scope_lines n unit =
    scope_head unit.name
    ++ case_lines unit.case
    ++ var_lines n (kinds_of unit) unit.elements
    ++ line (codes "$upscope $end")

abbrev pub all_scopes : ℕ → List FalseUnit → List ℕ
all_scopes n [] = []
all_scopes n (unit ∷ units) = scope_lines n unit ++ all_scopes (n + length unit.elements) units

-- ---- values

abbrev pub value_line : ℕ → Kind → List ℕ → List ℕ
value_line n kind value = line (value_text kind value (code_of n))

-- the value of each element
abbrev pub state_lines : ℕ → List Kind → List (List ℕ) → List ℕ
state_lines n (kind ∷ kinds) (value ∷ values) = value_line n kind value ++ state_lines (n + 1) kinds values
state_lines n _ _ = []

-- a value that differs from the one before
abbrev pub change_line : ℕ → Kind → List ℕ → List ℕ → List ℕ
change_line n kind old new = if bytes_eq old new then [] else value_line n kind new

abbrev pub change_lines : ℕ → List Kind → List (List ℕ) → List (List ℕ) → List ℕ
change_lines n (kind ∷ kinds) (old ∷ olds) (new ∷ news) = change_line n kind old new ++ change_lines (n + 1) kinds olds news
change_lines n _ _ _ = []

-- the changes at each time after this state
abbrev pub later_texts : ℕ → List Kind → List (List ℕ) → List (List (List ℕ)) → List (List ℕ)
later_texts n kinds old [] = []
later_texts n kinds old (new ∷ states) = change_lines n kinds old new ∷ later_texts n kinds new states

-- what is dumped at each time of a path: all values at time 0, and later those that change
abbrev pub time_texts : ℕ → List Kind → List (List (List ℕ)) → List (List ℕ)
time_texts n kinds [] = []
time_texts n kinds (first ∷ states) = state_lines n kinds first ∷ later_texts n kinds first states

-- the texts of two paths, time by time
abbrev pub side_by_side : List (List ℕ) → List (List ℕ) → List (List ℕ)
side_by_side [] others = others
side_by_side (text ∷ texts) [] = text ∷ texts
side_by_side (text ∷ texts) (other ∷ others) = (text ++ other) ∷ side_by_side texts others

abbrev pub all_texts : ℕ → List FalseUnit → List (List ℕ)
all_texts n [] = []
all_texts n (unit ∷ units) = side_by_side (time_texts n (kinds_of unit) unit.states) (all_texts (n + length unit.elements) units)

abbrev pub time_line : ℕ → List ℕ
time_line time = line (codes "#" ++ decimal time)

-- from this time on; one more time ends the last state
abbrev pub later_lines : ℕ → List (List ℕ) → List ℕ
later_lines time [] = time_line time
later_lines time (text ∷ texts) = time_line time ++ text ++ later_lines (time + 1) texts

abbrev pub dump_lines : List (List ℕ) → List ℕ
dump_lines [] = []
dump_lines (first ∷ texts) = time_line 0 ++ line (codes "$dumpvars") ++ first ++ line (codes "$end") ++ later_lines 1 texts

-- the whole text; a step of a path is a nanosecond
abbrev pub vcd : List FalseUnit → List ℕ
vcd units =
    line (codes "$version smv_wave $end")
    ++ line (codes "$timescale 1 ns $end")
    ++ all_scopes 0 units
    ++ line (codes "$enddefinitions $end")
    ++ dump_lines (all_texts 0 units)
