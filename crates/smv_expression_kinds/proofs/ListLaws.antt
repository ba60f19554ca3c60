-- Lists of constants, by their first names and by their numbers.
use Rattle.std.proofs.Common.{◌≡◌, List, [], ◌∷◌, refl, ap}
use Rattle.std.specs.Prelude.{Some, None, option_map, slice_get}
use Rattle.smv_core.specs.Values.{Name}
use Rattle.smv_core.specs.Types.{find_name, names_of}
use Rattle.smv_core.specs.declared.tree.Word.{Word}
use Rattle.smv_mentions.specs.Scopes.{Constant}
use Rattle.law_designs.specs.Owned.{owner}
use Rattle.law_designs.proofs.SameWalks.{path-equal, path-same}

pub ruleset lists = (path-equal, path-same)

pub owner-none : (constants : List (Name × Constant)) (words : List Word) → slice_get words 0 ≡ None → owner constants (names_of words) ≡ None
owner-none constants [] h = refl
owner-none constants (word ∷ words) h = absurd (cc (h))

pub owner-first : (constants : List (Name × Constant)) (words : List Word) (word : Word) → slice_get words 0 ≡ Some word → owner constants (names_of words) ≡ option_map (λ (c : Constant). c.names) (find_name constants word.name)
owner-first constants [] word h = absurd (cc (h))
owner-first constants (other ∷ words) word h = let same : other ≡ word = cc in ap (λ (w : Word). option_map (λ (c : Constant). c.names) (find_name constants w.name)) same
