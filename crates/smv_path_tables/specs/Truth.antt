-- What a row shows is what was read: from its cells the values are told again.
use Rattle.std.specs.Prelude.{◌≡◌, ℕ, false, List, [], ◌∷◌, codes, if◌then◌else◌}
use Rattle.std.specs.Str.{bytes_eq}
use Rattle.smv_path_tables.specs.Tables.{shown}

-- the value that a cell tells, behind this one
abbrev pub told : List ℕ → List ℕ → List ℕ
told old cell = if bytes_eq cell (codes ".") then old else cell

-- the values that cells tell behind this one
abbrev pub told_after : List ℕ → List (List ℕ) → List (List ℕ)
told_after old [] = []
told_after old (cell ∷ cells) = told old cell ∷ told_after (told old cell) cells

-- the values that the cells of a row tell
abbrev pub values_told : List (List ℕ) → List (List ℕ)
values_told [] = []
values_told (first ∷ cells) = first ∷ told_after first cells

-- no value is `.`, as none of a report of `prove` is
abbrev pub AreNoDots : List (List ℕ) → Type 0
AreNoDots [] = Unit {0}
AreNoDots (value ∷ values) = (bytes_eq value (codes ".") ≡ false) × AreNoDots values

abbrev pub RowsTellTheirValues : Type 0
RowsTellTheirValues = (values : List (List ℕ)) → AreNoDots values → values_told (shown values) ≡ values
