-- What is said of a fault: the line that `prove` writes of it, and below it the line of the text where it stands, with a mark at its place and the rule that is broken.
use Rattle.std.specs.Prelude.{ℕ, List, [], ◌∷◌, ◌++◌, codes, drop, fold, map, take, ◌==◌, if◌then◌else◌}
use Rattle.smv_report.specs.Lines.{line, fault_text}
use Rattle.smv_look_explain.specs.Rules.{rule}

-- the bytes up to the end of the line
abbrev pub rest_of_line : List ℕ → List ℕ
rest_of_line [] = []
rest_of_line (byte ∷ text) = if byte == 10 then [] else byte ∷ rest_of_line text

-- the last line of some bytes
abbrev pub last_line : List ℕ → List ℕ
last_line bytes = fold (λ front byte. if byte == 10 then [] else front ++ byte ∷ []) [] bytes

-- what stands before an offset in its line
abbrev pub before_in_line : List ℕ → ℕ → List ℕ
before_in_line text at = last_line (take at text)

-- the line of an offset
abbrev pub line_of : List ℕ → ℕ → List ℕ
line_of text at = before_in_line text at ++ rest_of_line (drop at text)

-- a blank in the place of a byte; a tab stays one, so that what stands below keeps its column
abbrev pub blank_for : ℕ → ℕ
blank_for byte = if byte == 9 then 9 else 32

-- `  | x := y;`
abbrev pub shown_line : List ℕ → ℕ → List ℕ
shown_line text at = line (codes "  | " ++ line_of text at)

-- `  |      ^ a name or a field is not declared`
abbrev pub marked_line : List ℕ → ℕ → ℕ → List ℕ
marked_line text number at = line (codes "  | " ++ map blank_for (before_in_line text at) ++ codes "^ " ++ rule number)

-- the lines of a fault of a text
abbrev pub fault_lines : List ℕ → ℕ → ℕ → List ℕ
fault_lines text number at = fault_text text number at ++ shown_line text at ++ marked_line text number at

-- the lines of a fault of which the text is not shown, since it is too long
abbrev pub unshown_lines : List ℕ → ℕ → ℕ → List ℕ
unshown_lines text number at = fault_text text number at ++ line (codes "  | " ++ rule number)
