-- The faults in types, on types that are made of lists and values.
use Rattle.std.proofs.Common.{◌≡◌, ℕ, List, [], ◌++◌, refl, ap, ◌∙◌}
use Rattle.std.specs.List.{flat_map}
use Rattle.smv_core.specs.declared.tree.Word.{Word}
use Rattle.smv_core.specs.declared.tree.Span.{Span}
use Rattle.smv_core.specs.declared.tree.Field.{Field, out-Field}
use Rattle.smv_core.specs.declared.tree.TypeExpr.{TypeExpr, Boolean, Range, Enum, Named, Struct, Struct', Array, Row_of-Field, end_of-Field, more_of-Field, items-the_row-Field, items_hidden-the_row-Field-1}
use mathlib.Core.Former.{Count}
use Rattle.law_designs.specs.Types.{Types, index_faults, type_faults, field_faults, range_faults}
use Rattle.smv_mentions.proofs.Computing.{computing}

module _ (types : Types) where
  pub faults-Boolean : type_faults types Boolean ≡ []
  unfolding type_faults
  faults-Boolean = refl

  pub faults-Range : (span : Span) (at : ℕ) → type_faults types (Range span at) ≡ range_faults span at
  unfolding type_faults
  faults-Range span at = refl

  pub faults-Enum : (names : List Word) (at : ℕ) → type_faults types (Enum names at) ≡ []
  unfolding type_faults
  faults-Enum names at = refl

  pub faults-Named : (word : Word) (at : ℕ) → type_faults types (Named word at) ≡ []
  unfolding type_faults
  faults-Named word at = refl

  pub faults-Array : (index of : TypeExpr) → type_faults types (Array index of) ≡ index_faults types index ++ type_faults types of
  unfolding type_faults computing
  faults-Array index of = refl

  fields-row : (n : _) (row : Row_of-Field n) → field_faults types row ≡ flat_map (λ field. type_faults types (out-Field field).of) (items-the_row-Field n row)
  unfolding type_faults computing
  fields-row n end_of-Field = refl
  fields-row n (more_of-Field names of at rest) = ap (λ l. type_faults types of ++ l) (fields-row _ rest)

  abbrev row_in : TypeExpr → (n : Count) × Row_of-Field n
  row_in (Struct' shape row) = (_, row)
  row_in _ = (_, end_of-Field)

  pub faults-Struct : (fields : List Field) → type_faults types (Struct fields) ≡ flat_map (λ field. type_faults types (out-Field field).of) fields
  unfolding type_faults
  faults-Struct fields =
      let row : (n : Count) × Row_of-Field n = row_in (Struct fields) in
      fields-row row.0 row.1 ∙ ap (λ l. flat_map (λ field. type_faults types (out-Field field).of) l) (items_hidden-the_row-Field-1 fields)

pub ruleset equations = (faults-Boolean, faults-Range, faults-Enum, faults-Named, faults-Array, faults-Struct)
