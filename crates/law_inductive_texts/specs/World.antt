-- What is declared where an expression stands, and what a faultless text says of its names there.
use Rattle.std.specs.Prelude.{◌≡◌, ℕ, Bool, true, false, List, [], ◌∷◌, Option, Some, None}
use Rattle.std.specs.List.{AllByRecursion}
use Rattle.smv_core.specs.Values.{Name}
use Rattle.smv_core.specs.declared.tree.Word.{Word}
use Rattle.smv_mentions.specs.Mentions.{Mention, declares, binds, follows, names_type, lists_constants, has_fields, instantiates}
use Rattle.smv_mentions.specs.Scopes.{words_of}

-- which names are types, and which are names of the module or constants
pub record World : Type 0 where
  pub is_type : Name → Bool
  pub is_declared : Name → Bool

-- A path begins with a variable or a declared name. Behind a variable of a name that is not declared stands no other name.
abbrev pub IsFinePath : World → Option ℕ → List Word → Type 0
IsFinePath w bound [] = Unit {0}
IsFinePath w None (word ∷ more) = w.is_declared word.name ≡ true
IsFinePath w (Some at) (word ∷ more) = w.is_declared word.name ≡ false → more ≡ []

-- A variable is named as no variable around it and as nothing that is declared, a named type is one, and paths are fine.
abbrev pub IsFine : World → Mention → Type 0
IsFine w (binds bound var) = (bound ≡ None) × (w.is_declared var.name ≡ false)
IsFine w (follows bound parts) = IsFinePath w bound (words_of parts)
IsFine w (names_type word) = w.is_type word.name ≡ true
IsFine w (declares word what) = Unit {0}
IsFine w (lists_constants words) = Unit {0}
IsFine w (has_fields words) = Unit {0}
IsFine w (instantiates word args) = Unit {0}

abbrev pub AreFine : World → List Mention → Type 0
AreFine w ms = AllByRecursion (IsFine w) ms
