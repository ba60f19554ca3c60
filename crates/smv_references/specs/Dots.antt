-- The names of a path as the code writes them, one after the other.
use Rattle.std.specs.Prelude.{ℕ, ◌+◌, List, [], ◌∷◌, ◌++◌, if◌then◌else◌, nat_lt}
use Rattle.smv_core.specs.Values.{Name}
use Rattle.smv_core.specs.declared.tree.Word.{Word}

-- the dot before the name of this place in a path
abbrev pub dot_before : ℕ → Name
dot_before k = if nat_lt 0 k then 46 ∷ [] else []

-- the names of a path from one on, each behind a dot save the first of all
abbrev pub dotted_from : ℕ → List Word → Name
dotted_from k [] = []
dotted_from k (word ∷ words) = dot_before k ++ word.name ++ dotted_from (k + 1) words

-- a path as it is written
abbrev pub written : List Word → Name
written path = dotted_from 0 path
