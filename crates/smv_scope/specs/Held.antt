-- What the tables of a text hold.
use Rattle.std.specs.Prelude.{◌≡◌, ℕ, List, [], ◌∷◌, map, length, Option, Some, None, option_map, slice_get}
use Rattle.std.specs.Option.{option_map_or}
use Rattle.std.proofs.Common.{Bor}
use Rattle.smv_core.specs.Values.{Name}
use Rattle.smv_core.specs.Types.{names_of}
use Rattle.smv_core.specs.declared.tree.Word.{Word}
use Rattle.smv_core.specs.declared.tree.Text.{Text}
use Rattle.smv_mentions.specs.Scopes.{Fields, Known, Piece, Own, Constant, Body, no_field, own_names, constants as all_constants, pieces}
use Rattle.smv_mentions.specs.Mentions.{Mention, lists_constants}
use Rattle.smv_mentions.specs.declared.pieces.Piece.{Piece as NotedPiece}
use Rattle.smv_mentions.specs.Said.{said, said_of, AreNoted}
use Rattle.smv_scope.specs.Numbered.{known_before, field_in, fields_at, top_names, mentions_at}
use Rattle.smv_scope.specs.declared.tables.Led.{Led}
use Rattle.smv_scope.specs.declared.tables.Own.{Own as HeldOwn}
use Rattle.smv_scope.specs.declared.tables.Constant.{Constant as HeldConstant}
use Rattle.smv_scope.specs.declared.tables.Module.{Module as HeldModule}
use Rattle.smv_scope.specs.declared.tables.Tables.{Tables}
use Rattle.smv_scope.specs.declared.paths.Inner.{Inner}
use Rattle.smv_scope.specs.declared.undeclared.Formals.{Formals}

-- what is wrong with field names behind a type that leads to this struct or to none
abbrev pub fields_led : Text → Option Led → Fields
fields_led text None words = no_field words
fields_led text (Some led) [] = []
fields_led text (Some led) (word ∷ more) = field_in (known_before text led.place) led.fields.now word more

-- each top of a type leads to its struct or to none
abbrev pub AreLed : Text → List (Option Led) → Type 0
AreLed text structs = (i : ℕ) (led : Option Led) → slice_get structs i ≡ Some led → (words : List Word) → fields_at text i words ≡ fields_led text led words

-- a name of a module
abbrev pub own_of : HeldOwn → Own
own_of own = record { at = own.at; what = said_of own.what }

abbrev pub own_beside : Name × HeldOwn → Name × Own
own_beside pair = (pair.0, own_of pair.1)

-- a constant, with the list of its number
abbrev pub constant_of : List (Bor (List Word)) → HeldConstant → Constant
constant_of lists constant = record { at = constant.at; names = option_map_or (λ words. names_of words.now) (slice_get lists constant.list) [] }

abbrev pub constant_beside : List (Bor (List Word)) → Name × HeldConstant → Name × Constant
constant_beside lists pair = (pair.0, constant_of lists pair.1)

-- a module
abbrev pub body_of : Text → HeldModule → Body
body_of text found = record { formals = found.formals.now; known = known_before text found.place; mentions = mentions_at text found.place }

-- the tables of a text
pub record AreTables (tables : Tables) : Type 0 where
  pub noted : AreNoted tables.pieces.now tables.text.now
  pub names : tables.names ≡ top_names tables.text.now
  pub led : AreLed tables.text.now tables.structs.items
  pub all_led : length tables.structs.items ≡ length tables.text.now.tops
  pub own : map (map own_beside) tables.own.items ≡ map (λ piece. own_names piece.mentions) (pieces tables.text.now)
  pub constants : map (constant_beside tables.lists.items) tables.constants ≡ all_constants (pieces tables.text.now)

-- a name in a module, with the types that this module may name
abbrev pub inner_of : Text → Inner → Known × Own
inner_of text inner = (known_before text inner.place, own_of inner.own)

-- the constants that are listed
abbrev pub lists_of : Mention → List (List Word)
lists_of (lists_constants words) = words ∷ []
lists_of _ = []

-- the constants of a list, each with where it is first listed and that list
abbrev pub constants_of_list : List Word → List (Name × Constant)
constants_of_list words = map (λ word. (word.name, record { at = word.at; names = names_of words })) words

-- the names of the formals are in the index
abbrev pub AreFormals : Formals → Type 0
AreFormals formals = formals.index ≡ names_of formals.words.now

-- the top of a number, as it was noted
abbrev pub piece_noted : Text → ℕ → NotedPiece → Piece
piece_noted text i piece =
    record { word = piece.word.now; formals = option_map (λ (words : Bor (List Word)). words.now) piece.formals; known = known_before text i; mentions = map said piece.mentions.items }
