-- Scopes: what a name stands for in each place of a text. Of several declarations of one name the first counts.
use Rattle.std.specs.Prelude.{ℕ, List, [], ◌∷◌, ◌++◌, map, flat_map, Option, Some, None, Bool, false, if◌then◌else◌, nat_lt, option_map, unwrap_or}
use Rattle.std.specs.Str.{bytes_eq}
use Rattle.std.specs.List.{list_any}
use Rattle.smv_core.specs.Values.{Name}
use Rattle.smv_core.specs.Types.{find_name, names_of}
use Rattle.smv_core.specs.declared.tree.Word.{Word}
use Rattle.smv_core.specs.declared.tree.Text.{Text}
use Rattle.smv_core.specs.declared.tree.Top.{Top}
use Rattle.smv_core.specs.declared.tree.Top.TheVariants.{SetType, Alias, Module}
use Rattle.smv_core.specs.declared.tree.TypeExpr.{TypeExpr, Named, Array', Struct', Row_of-Field, end_of-Field, more_of-Field}
use Rattle.smv_core.specs.declared.tree.Part.{Part, Field, At}
use Rattle.smv_mentions.specs.Mentions.{What, signal, instance, goal, Mention, declares, lists_constants, first_place, in_type, in_item}
use Rattle.smv_core.specs.Rows.{one_type}

-- ---- types and modules

-- what is wrong with field names, one behind the other: the place of the first that is no field
abbrev pub Fields : Type 0
Fields = List Word → List ℕ

-- where nothing has a field
abbrev pub no_field : Fields
no_field [] = []
no_field (word ∷ more) = word.at ∷ []

-- the types and modules declared so far, a type by its fields and a module by none
abbrev pub Known : Type 0
Known = List (Name × Option Fields)

-- the fields of a type that is known; no module and no other name is a type
abbrev pub fields_if_type : Option (Option Fields) → Fields
fields_if_type (Some (Some fields)) words = fields words
fields_if_type _ words = no_field words

-- one of these is the name
abbrev pub has_name : List Word → Name → Bool
has_name words name = list_any (λ word. bytes_eq word.name name) words

module _ (known : Known) where
  abbrev mutual
    -- the fields of a type: those of a struct, also in an array
    pub fields_of : TypeExpr → Fields
    fields_of (Named word at) words = fields_if_type (find_name known word.name) words
    fields_of (Array' i index o (one_type of)) words = fields_of of words
    fields_of (Struct' shape fields) [] = []
    fields_of (Struct' shape fields) (word ∷ more) = field_among fields word more
    fields_of _ words = no_field words

    pub field_among : {m : _} → Row_of-Field m → Word → Fields
    field_among end_of-Field word more = word.at ∷ []
    field_among (more_of-Field names of at rest) word more = if has_name names word.name then fields_of of more else field_among rest word more

  -- what is known after one more top
  abbrev pub known_after : Top → Known
  known_after (SetType word ordered span at) = known ++ (word.name, Some no_field) ∷ []
  known_after (Alias word of at) = known ++ (word.name, Some (fields_of of)) ∷ []
  known_after (Module word formals body at) = known ++ (word.name, None) ∷ []

-- a top of a text with its name, the types and modules declared before it, what it says, and its formals where it is a module
pub record Piece : Type 0 where
  pub word : Word
  pub formals : Option (List Word)
  pub known : Known
  pub mentions : List Mention

abbrev pub piece_of : Known → Top → Piece
piece_of known (SetType word ordered span at) = record { word = word; formals = None; known = known; mentions = [] }
piece_of known (Alias word of at) = record { word = word; formals = None; known = known; mentions = in_type of }
piece_of known (Module word formals body at) = record { word = word; formals = Some formals; known = known; mentions = flat_map (in_item []) body }

-- each top is read with those before it
abbrev pub pieces_from : Known → List Top → List Piece
pieces_from known [] = []
pieces_from known (top ∷ tops) = piece_of known top ∷ pieces_from (known_after known top) tops

abbrev pub pieces : Text → List Piece
pieces text = pieces_from [] text.tops

-- a module, by its formals, the types that it may name, and what it says
pub record Body : Type 0 where
  pub formals : List Word
  pub known : Known
  pub mentions : List Mention

abbrev pub body_if_module : Option Piece → Option Body
body_if_module None = None
body_if_module (Some piece) = option_map (λ formals. record { formals = formals; known = piece.known; mentions = piece.mentions }) piece.formals

-- the module of a name, unless the name is first declared as a type
abbrev pub module_named : List Piece → Name → Option Body
module_named tops name = body_if_module (find_name (map (λ piece. (piece.word.name, piece)) tops) name)

-- ---- the names of a module

-- a name of a module: where it is declared, and what it is
pub record Own : Type 0 where
  pub at : ℕ
  pub what : What

-- the signals, instances, claims and splits that are declared
abbrev pub own_names : List Mention → List (Name × Own)
own_names [] = []
own_names (declares word what ∷ more) = (word.name, record { at = word.at; what = what }) ∷ own_names more
own_names (_ ∷ more) = own_names more

-- what is wrong with names behind a signal, an instance, a claim or a split
abbrev pub behind : List Piece → Known → What → Fields
behind tops known (signal role of) words = fields_of known of words
behind tops known goal words = no_field words
behind tops known (instance name) [] = []
behind tops known (instance name) (word ∷ more) =
    unwrap_or (option_map (λ (inner, own). behind tops inner own.what more) (inside (module_named tops name.name))) (word.at ∷ [])
  where
    -- the name in the module of the instance, with the types that this module may name
    inside : Option Body → Option (Known × Own)
    inside None = None
    inside (Some body) = option_map (λ own. (body.known, own)) (find_name (own_names body.mentions) word.name)

-- ---- constants

-- a constant: where it is first listed, and that list
pub record Constant : Type 0 where
  pub at : ℕ
  pub names : List Name

abbrev pub constants_in : List Mention → List (Name × Constant)
constants_in [] = []
constants_in (lists_constants words ∷ more) = map (λ word. (word.name, record { at = word.at; names = names_of words })) words ++ constants_in more
constants_in (_ ∷ more) = constants_in more

-- the constants of all enumerations of a text, those of unused modules and types too
abbrev pub constants : List Piece → List (Name × Constant)
constants tops = flat_map (λ piece. constants_in piece.mentions) tops

-- ---- paths

-- where something stands in a text
pub record Scope : Type 0 where
  pub tops : List Piece
  pub constants : List (Name × Constant)
  pub known : Known
  pub own : List (Name × Own)

abbrev pub scope_of : List Piece → Piece → Scope
scope_of tops piece = record { tops = tops; constants = constants tops; known = piece.known; own = own_names piece.mentions }

-- the names of a path, without its indexes
abbrev pub words_of : List Part → List Word
words_of [] = []
words_of (Field word ∷ parts) = word ∷ words_of parts
words_of (At index ∷ parts) = words_of parts

-- the first of two places
abbrev pub first_of_places : Option ℕ → Option ℕ → Option ℕ
first_of_places None other = other
first_of_places (Some at) other = Some (first_place at other)

-- the place is before another
abbrev pub is_before : Option ℕ → ℕ → Bool
is_before None at = false
is_before (Some other) at = nat_lt other at

module _ (scope : Scope) where
  -- where the name is first declared as a constant
  abbrev pub constant_at : Name → Option ℕ
  constant_at name = option_map (λ (constant : Constant). constant.at) (find_name scope.constants name)

  -- A name and those behind it, where it is declared as a name of the module, and where first as a variable or a constant: what is first in the text
  -- counts.
  abbrev pub resolved : Option Own → Option ℕ → Word → Fields
  resolved None None word more = word.at ∷ []
  resolved None (Some at) word more = no_field more
  resolved (Some own) value word more = if is_before value own.at then no_field more else behind scope.tops scope.known own.what more

  -- what is wrong with a path, where a variable around it is bound there: the place of its first name that is not declared
  abbrev pub path_places : Option ℕ → Fields
  path_places bound [] = []
  path_places bound (word ∷ more) = resolved (find_name scope.own word.name) (first_of_places bound (constant_at word.name)) word more
