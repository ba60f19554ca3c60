-- Comments, said of all places of a text.
use Rattle.std.specs.Prelude.{◌≡◌, ◌+◌, ◌<◌, ℕ, true, false, List, codes, length, take, drop, get_or}
use Rattle.std.specs.List.{list_all}
use Rattle.smv_lex.specs.declared.front.Front.TheVariants.{Passed}
use Rattle.smv_lex.specs.Lexing.{begins, is_in_line, front_of}

-- `*/` stands behind j bytes, and nowhere before
abbrev pub EndsFirstAt : List ℕ → ℕ → Type 0
EndsFirstAt bytes j = (begins (drop j bytes) (codes "*/") ≡ true) × ((k : ℕ) → k < j → begins (drop k bytes) (codes "*/") ≡ false)

-- a `/*` is passed up to the first `*/` behind its two bytes
abbrev pub PassesBlock : List ℕ → Type 0
PassesBlock text = (n : ℕ) → begins text (codes "/*") ≡ true → front_of text ≡ Passed n → (j : ℕ) × (n ≡ 2 + j + 2) × EndsFirstAt (drop 2 text) j

-- a `--` is passed up to the end of its line, or of the text
abbrev pub PassesLine : List ℕ → Type 0
PassesLine text = (n : ℕ) → begins text (codes "--") ≡ true → front_of text ≡ Passed n → (list_all is_in_line (take n text) ≡ true) × (n < length text → is_in_line (get_or text n 0) ≡ false)
