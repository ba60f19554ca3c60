-- Names among words.
use Rattle.std.proofs.Common.{◌≡◌, ℕ, suc, List, [], ◌∷◌, Bool, true, false, cond, ◌||◌, refl, ap, ◌∙◌}
use Rattle.std.specs.Prelude.{Option, Some, None, option_map, is_some}
use Rattle.std.specs.Str.{bytes_eq}
use Rattle.smv_core.specs.Values.{Name}
use Rattle.smv_core.specs.Types.{names_of}
use Rattle.smv_core.specs.declared.tree.Word.{Word}
use Rattle.smv_mentions.specs.Scopes.{has_name}
use Rattle.name_index.specs.Position.{position}

-- a name of these words has a place among them
pub has-place : (words : List Word) (name : Name) → has_name words name ≡ is_some (position (names_of words) name)
has-place [] name = refl
has-place (word ∷ words) name = ap (λ b. bytes_eq word.name name || b) (has-place words name) ∙ by (bytes_eq word.name name) (position (names_of words) name)
  where
    by : (b : Bool) (o : Option ℕ) → (b || is_some o) ≡ is_some (cond b (Some 0) (option_map suc o))
    by true o = refl
    by false None = refl
    by false (Some i) = refl

pub ruleset names = (has-place)
