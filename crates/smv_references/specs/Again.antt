-- What stands twice in a list of keys, each with its place.
use Rattle.std.specs.Prelude.{ℕ, List, [], ◌∷◌, ◌++◌, map, Option, Bool, ◌&&◌, nat_eq}
use Rattle.std.specs.List.{list_any}
use Rattle.std.specs.Option.{option_eq}
use Rattle.std.specs.HashSet.{HashSet, contains}
use Rattle.std.proofs.Common.{Bor}
use Rattle.smv_core.specs.Values.{Name}
use Rattle.smv_core.specs.declared.tree.Word.{Word}
use Rattle.smv_mentions.specs.NameFaults.{place_if}

-- a number, or two
abbrev pub Key : Type 0
Key = ℕ × Option ℕ

abbrev pub same_key : Key → Key → Bool
same_key x y = nat_eq x.0 y.0 && option_eq nat_eq x.1 y.1

-- the places of keys that are the same as one before, or as one of these
abbrev pub again : {K : Type 0} → (K → K → Bool) → List K → List (ℕ × K) → List ℕ
again same before [] = []
again same before (x ∷ more) = place_if (list_any (λ key. same key x.1) before) x.0 ++ again same (before ++ x.1 ∷ []) more

-- a key is in a set
abbrev pub is_noted : {S : Type 0} → HashSet Key S → Key → Bool
is_noted seen key = contains same_key seen key

-- a name with its place
abbrev pub placed : ℕ × Bor Name → ℕ × Name
placed x = (x.0, x.1.now)

-- words with their places
abbrev pub placed_words : List Word → List (ℕ × Name)
placed_words words = map (λ (word : Word). (word.at, word.name)) words
