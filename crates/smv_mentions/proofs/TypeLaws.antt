-- What types say, on types that are made of lists and values.
use Rattle.std.proofs.Common.{◌≡◌, ℕ, List, [], ◌∷◌, ◌++◌, refl, ap, ◌∙◌}
use Rattle.std.specs.List.{flat_map}
use Rattle.smv_core.specs.declared.tree.Word.{Word}
use Rattle.smv_core.specs.declared.tree.Span.{Span}
use Rattle.smv_core.specs.declared.tree.Field.{Field, out-Field}
use Rattle.smv_core.specs.declared.tree.TypeExpr.{TypeExpr, Boolean, Range, Enum, Named, Struct, Struct', Array, Row_of-Field, end_of-Field, more_of-Field, items-the_row-Field, items_hidden-the_row-Field-1}
use mathlib.Core.Former.{Count}
use Rattle.smv_mentions.specs.Mentions.{Mention, in_type, in_fields, fields_in, has_fields, lists_constants, names_type}
use Rattle.smv_mentions.proofs.Computing.{computing}

pub type-Boolean : in_type Boolean ≡ []
unfolding in_type
type-Boolean = refl

pub type-Range : (span : Span) (at : ℕ) → in_type (Range span at) ≡ []
unfolding in_type
type-Range span at = refl

pub type-Enum : (names : List Word) (at : ℕ) → in_type (Enum names at) ≡ lists_constants names ∷ []
unfolding in_type
type-Enum names at = refl

pub type-Named : (word : Word) (at : ℕ) → in_type (Named word at) ≡ names_type word ∷ []
unfolding in_type
type-Named word at = refl

pub type-Array : (index of : TypeExpr) → in_type (Array index of) ≡ in_type index ++ in_type of
unfolding in_type computing
type-Array index of = refl

-- the names of some fields, and what their types say
abbrev pub all_names : List Field → List Word
all_names fields = flat_map (λ field. (out-Field field).names) fields

abbrev pub all_types : List Field → List Mention
all_types fields = flat_map (λ field. in_type (out-Field field).of) fields

fields-row : (n : _) (row : Row_of-Field n) → in_fields row ≡ all_types (items-the_row-Field n row)
unfolding in_type computing
fields-row n end_of-Field = refl
fields-row n (more_of-Field names of at rest) = ap (λ l. in_type of ++ l) (fields-row _ rest)

names-row : (n : _) (row : Row_of-Field n) → fields_in row ≡ all_names (items-the_row-Field n row)
unfolding computing
names-row n end_of-Field = refl
names-row n (more_of-Field names of at rest) = ap (λ l. names ++ l) (names-row _ rest)

abbrev row_in : TypeExpr → (n : Count) × Row_of-Field n
row_in (Struct' shape row) = (_, row)
row_in _ = (_, end_of-Field)

pub type-Struct : (fields : List Field) → in_type (Struct fields) ≡ has_fields (all_names fields) ∷ all_types fields
unfolding in_type
type-Struct fields =
    let row : (n : Count) × Row_of-Field n = row_in (Struct fields) in
    let e : fields_in row.1 ≡ all_names fields = names-row row.0 row.1 ∙ ap all_names (items_hidden-the_row-Field-1 fields) in
    let f : in_fields row.1 ≡ all_types fields = fields-row row.0 row.1 ∙ ap all_types (items_hidden-the_row-Field-1 fields) in
    ap (λ l. has_fields l ∷ in_fields row.1) e ∙ ap (λ l. has_fields (all_names fields) ∷ l) f

pub ruleset equations = (type-Boolean, type-Range, type-Enum, type-Named, type-Array, type-Struct)
