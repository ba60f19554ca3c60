-- What the lines of a unit are made of: names, types, places and times.
use Rattle.std.specs.Prelude.{ℕ, ◌+◌, List, [], ◌∷◌, ◌++◌, codes, flat_map, get_or, slice_get, Option, Some, None}
use Rattle.std.specs.Fmt.{decimal}
use Rattle.smv_core.specs.Values.{Name}
use Rattle.smv_core.specs.declared.flat.Simple.{Simple}
use Rattle.smv_core.specs.declared.flat.Simple.TheVariants.{Range, Enum, Set}
use Rattle.smv_core.specs.declared.flat.SetInfo.{SetInfo}
use Rattle.smv_core.specs.declared.flat.Claim.{Claim as FlatClaim}
use Rattle.smv_core.specs.declared.flat.Design.{Design}
use Rattle.smv_core.specs.declared.flat.Unit.{Unit}
use Rattle.smv_core.specs.declared.flat.Unit.TheVariants.{Map, Claim}
use Rattle.smv_core.specs.declared.flat.Timing.{Timing}
use Rattle.smv_core.specs.declared.flat.Timing.TheVariants.{Now, Before}
use Rattle.smv_report.specs.Lines.{line_at, column_at}

-- ` word` for each of some words
abbrev pub words_text : List Name → List ℕ
words_text [] = []
words_text (word ∷ words) = codes " " ++ word ++ words_text words

-- ` 1 2` for the numbers 0 and 1, which count from 1 as they are written
abbrev pub numbers_text : List ℕ → List ℕ
numbers_text [] = []
numbers_text (k ∷ ks) = codes " " ++ decimal (k + 1) ++ numbers_text ks

abbrev pub name_of_set : Option SetInfo → Name
name_of_set (Some info) = info.name
name_of_set None = []

abbrev pub name_of_claim : Option FlatClaim → Name
name_of_claim (Some claim) = claim.name
name_of_claim None = []

-- a range by its bounds, an enumeration by its constants, a set type by its name
abbrev pub type_text : Design → Simple → List ℕ
type_text d (Range low high) = decimal low ++ codes ".." ++ decimal high
type_text d (Enum list) = codes "{" ++ words_text (get_or d.enums list []) ++ codes " }"
type_text d (Set set) = name_of_set (slice_get d.sets set)

abbrev pub kind_text : Unit → List ℕ
kind_text (Map def) = codes "map"
kind_text (Claim claim) = codes "claim"

abbrev pub time_text : Timing → List ℕ
time_text Now = codes " now"
time_text Before = codes " before"

-- ` at line L column C`
abbrev pub place_text : List ℕ → ℕ → List ℕ
place_text text at = codes " at line " ++ decimal (line_at text at) ++ codes " column " ++ decimal (column_at text at)
