-- Names behind names, and paths.
use Rattle.std.proofs.Common.{◌≡◌, List, [], ◌∷◌, refl, ap}
use Rattle.std.specs.Prelude.{Option, Some, None, option_map, unwrap_or}
use Rattle.std.specs.List.{flat_map}
use Rattle.smv_core.specs.declared.tree.Word.{Word}
use Rattle.smv_core.specs.declared.tree.Part.{Part, Field, At}
use Rattle.smv_mentions.specs.Mentions.{instance}
use Rattle.smv_mentions.specs.Scopes.{Known, Piece, Body, behind, module_named, words_of}
use Rattle.smv_scope.specs.Numbered.{inside_of, word_in}

pub words-flat : (parts : List Part) → words_of parts ≡ flat_map word_in parts
words-flat [] = refl
words-flat (Field word ∷ parts) = ap (λ l. word ∷ l) (words-flat parts)
words-flat (At index ∷ parts) = words-flat parts

pub behind-instance : (tops : List Piece) (known : Known) (name word : Word) (more : List Word)
    → behind tops known (instance name) (word ∷ more) ≡ unwrap_or (option_map (λ found. behind tops found.0 found.1.what more) (inside_of (module_named tops name.name) word.name)) (word.at ∷ [])
behind-instance tops known name word more = by (module_named tops name.name) refl
  where
    by : (m : Option Body) → module_named tops name.name ≡ m
        → behind tops known (instance name) (word ∷ more) ≡ unwrap_or (option_map (λ found. behind tops found.0 found.1.what more) (inside_of m word.name)) (word.at ∷ [])
    by None e = rw e refl
    by (Some body) e = rw e refl
