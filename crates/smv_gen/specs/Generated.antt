-- The generated design of a size, line by line: a counter, and a chain of counters each of which copies the one before it.
use Rattle.std.specs.Prelude.{ℕ, ◌+◌, List, [], ◌∷◌, ◌++◌, map, codes, ◌==◌, if◌then◌else◌}
use Rattle.std.specs.Fmt.{decimal}
use Rattle.std.specs.List.{flat_map, range_with_len}

-- what stands in the place of a byte of a pattern: these numbers in decimal for the letters `j` and `k` (bytes 106 and 107), and any other byte itself
abbrev pub number_for : ℕ → ℕ → ℕ → List ℕ
number_for j k byte = if byte == 106 then decimal j else (if byte == 107 then decimal k else byte ∷ [])

abbrev pub numbered : ℕ → ℕ → List ℕ → List ℕ
numbered j k pattern = flat_map (number_for j k) pattern

abbrev pub first_line : List ℕ
first_line = codes "s0 : 0..7; init(s0) := 0; next(s0) := (s0 + 1) mod 4; p0 : assert G (s0 <= 3);"

abbrev pub copy_line : List ℕ
copy_line = codes "sk : 0..7; init(sk) := 0; next(sk) := sj; pk : assert G (sk <= 3); using sj//free, pj prove pk;"

-- counter j + 1 copies counter j
abbrev pub copy_of : ℕ → List ℕ
copy_of j = numbered j (j + 1) copy_line

abbrev pub generated_lines : ℕ → List (List ℕ)
generated_lines copies = codes "module main() {" ∷ first_line ∷ map copy_of (range_with_len 0 copies) ++ codes "}" ∷ []

-- each line ends with the byte 10
abbrev pub generated_text : ℕ → List ℕ
generated_text copies = flat_map (λ line. line ++ 10 ∷ []) (generated_lines copies)
