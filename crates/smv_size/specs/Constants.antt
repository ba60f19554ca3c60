-- The constants of all enumerations of a text, by what its tops say.
use Rattle.std.specs.Prelude.{◌≡◌, ◌+◌, List, ◌++◌, map, flat_map, length}
use Rattle.smv_core.specs.Values.{Name}
use Rattle.smv_mentions.specs.Mentions.{Mention}
use Rattle.smv_mentions.specs.Scopes.{constants_in}
use Rattle.smv_mentions.specs.Sizes.{count_different}
use Rattle.smv_size.specs.Recursion.{Told}

-- the constants that are listed
abbrev pub constants_said : List Mention → List Name
constants_said mentions = map (λ (name, constant). name) (constants_in mentions)

abbrev pub constants_told : List Told → List Name
constants_told tops = flat_map (λ (top : Told). constants_said top.2) tops

-- names came to those that are different, each of these unless it was there before
abbrev pub Counts : List Name → List Name → List Name → Type 0
Counts names seen after = (more : List Name) → length after + count_different after more ≡ length seen + count_different seen (names ++ more)
