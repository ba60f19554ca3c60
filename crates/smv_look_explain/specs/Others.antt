-- What is said of the other place of a fault, where it has one: below the line of the text where that stands, a mark with what stands there.
use Rattle.std.specs.Prelude.{ℕ, List, [], ◌++◌, codes, flat_map, map, Option, Some, None, if◌then◌else◌, nat_eq}
use Rattle.std.specs.Fmt.{decimal}
use Rattle.smv_report.specs.Lines.{line, line_at, column_at}
use Rattle.smv_look_explain.specs.Faults.{before_in_line, blank_for, fault_lines, shown_line}

-- what stands at the other place of a fault of this number
abbrev pub other_rule : ℕ → List ℕ
other_rule number =
    if nat_eq number 8 then codes "declared first here"
    else if nat_eq number 9 then codes "no module has an instance of this one"
    else if nat_eq number 10 then codes "in which the instance stands"
    else if nat_eq number 15 then codes "the other assignment is here"
    else if nat_eq number 16 then codes "the other assignment is here"
    else if nat_eq number 18 then codes "which reads this"
    else if nat_eq number 27 then codes "chosen first here"
    else []

-- `  |   ^ declared first here`
abbrev pub other_said : List ℕ → ℕ → ℕ → List ℕ
other_said text number at = codes "  | " ++ map blank_for (before_in_line text at) ++ codes "^ " ++ other_rule number

-- `, at line 2 column 3`
abbrev pub other_stands : List ℕ → ℕ → List ℕ
other_stands text at = codes ", at line " ++ decimal (line_at text at) ++ codes " column " ++ decimal (column_at text at)

-- `  |   ^ declared first here, at line 2 column 3`
abbrev pub other_mark : List ℕ → ℕ → ℕ → List ℕ
other_mark text number at = line (other_said text number at ++ other_stands text at)

-- the lines of the other place of a fault of this number
abbrev pub other_lines : List ℕ → ℕ → ℕ → List ℕ
other_lines text number at = shown_line text at ++ other_mark text number at

-- the lines of a fault of a text, with those of its other place where it has one
abbrev pub lines_with : List ℕ → ℕ → ℕ → Option ℕ → List ℕ
lines_with text number at None = fault_lines text number at
lines_with text number at (Some other) = fault_lines text number at ++ other_lines text number other

-- those with the lines of each of its other places, one behind another
abbrev pub lines_along : List ℕ → ℕ → ℕ → List ℕ → List ℕ
lines_along text number at places = fault_lines text number at ++ flat_map (other_lines text number) places
