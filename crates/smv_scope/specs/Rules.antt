-- Where the rules about names are broken in a top.
use Rattle.std.specs.Prelude.{ℕ, List, [], ◌∷◌, ◌++◌, filter, is_some}
use Rattle.smv_core.specs.Values.{Name}
use Rattle.smv_core.specs.Types.{find_name}
use Rattle.smv_core.specs.declared.tree.Word.{Word}
use Rattle.smv_core.specs.declared.tree.Text.{Text}
use Rattle.smv_mentions.specs.Scopes.{Piece, constants, pieces}
use Rattle.smv_mentions.specs.NameFaults.{undeclared_in, doubled_in, miscounted_in, place_if, places_of, is_of_other_list}
use Rattle.name_index.specs.Position.{position}
use Rattle.smv_scope.specs.declared.rules.Rule.{Rule}
use Rattle.smv_scope.specs.declared.rules.Rule.TheVariants.{Declared, Once, Counted}

-- the places in a top where a rule is broken
abbrev pub broken : Rule → List Piece → Piece → List ℕ
broken Declared tops piece = undeclared_in tops piece
broken Once tops piece = doubled_in tops piece
broken Counted tops piece = miscounted_in tops piece

-- the constants of a list that belong to another one
abbrev pub others : Text → List Word → List ℕ
others text words = places_of (filter (λ word. is_of_other_list words (find_name (constants (pieces text)) word.name)) words)

-- the words whose name is one of these or stands before in the list
abbrev pub repeated_after : List Name → List Word → List ℕ
repeated_after names [] = []
repeated_after names (word ∷ more) = place_if (is_some (position names word.name)) word.at ++ repeated_after (names ++ word.name ∷ []) more
