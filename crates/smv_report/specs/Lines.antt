-- The line of a fault: its number, and its place in the text.
use Rattle.std.specs.Prelude.{ℕ, ◌+◌, List, ◌∷◌, [], ◌++◌, codes, take, fold, ◌==◌, if◌then◌else◌}
use Rattle.std.specs.Fmt.{decimal}
use Rattle.std.specs.List.{count_by}

-- each line ends with the byte 10
abbrev pub line : List ℕ → List ℕ
line text = text ++ 10 ∷ []

-- the line of an offset: 1 and the line feeds before it
abbrev pub line_at : List ℕ → ℕ → ℕ
line_at text at = 1 + count_by (λ b. b == 10) (take at text)

-- the column of an offset: 1 where a line begins, and 1 more after each byte of the line
abbrev pub column_at : List ℕ → ℕ → ℕ
column_at text at = fold (λ column b. if b == 10 then 1 else column + 1) 1 (take at text)

-- `fault N at line L column C`
abbrev pub fault_text : List ℕ → ℕ → ℕ → List ℕ
fault_text text number at = line (codes "fault " ++ decimal number ++ codes " at line " ++ decimal (line_at text at) ++ codes " column " ++ decimal (column_at text at))
