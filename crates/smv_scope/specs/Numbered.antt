-- The tops of a text by their numbers, and where something stands in the top of a number.
use Rattle.std.specs.Prelude.{ℕ, List, [], ◌∷◌, map, Option, Some, None, option_map, option_and_then, slice_get, take, if◌then◌else◌, Bool, true, false, ◌&&◌, nat_lt}
use Rattle.name_index.specs.Position.{position}
use Rattle.std.specs.Option.{option_map_or}
use Rattle.smv_core.specs.Values.{Name}
use Rattle.smv_core.specs.declared.tree.Word.{Word}
use Rattle.smv_core.specs.declared.tree.Text.{Text}
use Rattle.smv_core.specs.declared.tree.Top.{Top}
use Rattle.smv_core.specs.declared.tree.Top.TheVariants.{SetType, Alias, Module}
use Rattle.smv_core.specs.declared.tree.Field.{Field, out-Field}
use Rattle.smv_core.specs.declared.tree.Part.{Part, Field as PartField, At}
use Rattle.smv_core.specs.Types.{find_name}
use Rattle.smv_mentions.specs.Mentions.{Mention}
use Rattle.smv_mentions.specs.Scopes.{Fields, Known, Body, Own, Scope, known_after, pieces, constants, own_names, no_field, has_name, fields_of, fields_if_type}

-- what is known after these tops
abbrev pub known_from : Known → List Top → Known
known_from known [] = known
known_from known (top ∷ tops) = known_from (known_after known top) tops

-- the types and modules that are declared before the top of a number
abbrev pub known_before : Text → ℕ → Known
known_before text k = known_from [] (take k text.tops)

-- the name of a top, with its place
abbrev pub top_word : Top → Word
top_word (SetType word ordered span at) = word
top_word (Alias word of at) = word
top_word (Module word formals body at) = word

-- what the top of a number says about names
abbrev pub mentions_at : Text → ℕ → List Mention
mentions_at text k = option_map_or (λ piece. piece.mentions) (slice_get (pieces text) k) []

-- where something stands in the top of a number
abbrev pub scope_at : Text → ℕ → Scope
scope_at text k = record { tops = pieces text; constants = constants (pieces text); known = known_before text k; own = own_names (mentions_at text k) }

-- what is wrong with field names behind these fields, whose types may name what is known
abbrev pub field_in : Known → List Field → Word → List Word → List ℕ
field_in known [] word more = word.at ∷ []
field_in known (field ∷ fields) word more = if has_name (out-Field field).names word.name then fields_of known (out-Field field).of more else field_in known fields word more

-- the names of the tops
abbrev pub top_names : Text → List Name
top_names text = map (λ top. (top_word top).name) text.tops

-- the fields of a type that is declared after what is known; a module is no type
abbrev pub value_of : Known → Top → Option Fields
value_of known (SetType word ordered span at) = Some no_field
value_of known (Alias word of at) = Some (fields_of known of)
value_of known (Module word formals body at) = None

-- the fields of the top of a number
abbrev pub fields_at : Text → ℕ → Fields
fields_at text i = fields_if_type (option_map (value_of (known_before text i)) (slice_get text.tops i))

-- a top is a type
abbrev pub is_type_top : Option Top → Bool
is_type_top None = false
is_type_top (Some (Module word formals body at)) = false
is_type_top (Some _) = true

-- the number of the type of a name that is declared before the top of a number
abbrev pub type_number : Text → ℕ → Name → Option ℕ
type_number text k name = option_and_then (λ i. if nat_lt i k && is_type_top (slice_get text.tops i) then Some i else None) (position (top_names text) name)

-- the first field of a name
abbrev pub field_named : List Field → Name → Option Field
field_named [] name = None
field_named (field ∷ fields) name = if has_name (out-Field field).names name then Some field else field_named fields name

-- a name in a module, with the types that this module may name
abbrev pub inside_of : Option Body → Name → Option (Known × Own)
inside_of None name = None
inside_of (Some body) name = option_map (λ own. (body.known, own)) (find_name (own_names body.mentions) name)

-- the name of a part of a path
abbrev pub word_in : Part → List Word
word_in (PartField word) = word ∷ []
word_in (At index) = []
