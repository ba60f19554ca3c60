-- The tokens of types.
use Rattle.std.specs.Prelude.{List, [], ◌∷◌, ◌++◌, map, flat_map}
use Rattle.smv_core.specs.declared.token.TokenKind.TheVariants.{Ident, Number}
use Rattle.smv_core.specs.declared.tree.Word.{Word}
use Rattle.smv_core.specs.declared.tree.Span.{Span}
use Rattle.smv_core.specs.declared.tree.TypeExpr.{TypeExpr, fold-TypeExpr}
use Rattle.smv_core.specs.declared.tree.TypeExpr.TheOpen.{TypeExpr-F}
use Rattle.smv_core.specs.declared.tree.Field.{Field, fold-Field, Field-F}
use Rattle.smv_core.specs.Signs.{open_brace, close_brace, colon, semicolon, comma, dots}
use Rattle.smv_core.specs.Signs as w
use Rattle.smv_print.specs.Written.{Kinds, separated}

abbrev pub word_kinds : Word → Kinds
word_kinds x = Ident x.name ∷ []

-- name { ',' name }
unfoldable pub names_kinds : List Word → Kinds
names_kinds names = separated comma (map word_kinds names)

-- number '..' number
abbrev pub span_kinds : Span → Kinds
span_kinds s = Number s.low ∷ dots ∷ Number s.high ∷ []

abbrev pub field_step : Field-F Kinds Kinds → Kinds
field_step f = names_kinds f.names ++ colon ∷ f.of ++ semicolon ∷ []

abbrev pub type_step : TypeExpr-F Kinds Kinds → Kinds
type_step TypeExpr-F.Boolean = w.word_boolean ∷ []
type_step (TypeExpr-F.Range span at) = span_kinds span
type_step (TypeExpr-F.Enum names at) = open_brace ∷ names_kinds names ++ close_brace ∷ []
type_step (TypeExpr-F.Named name at) = word_kinds name
type_step (TypeExpr-F.Array index of) = w.word_array ∷ index ++ w.word_of ∷ of
type_step (TypeExpr-F.Struct fields) = w.word_struct ∷ open_brace ∷ flat_map (λ f. f) fields ++ close_brace ∷ []

unfoldable pub type_kinds : TypeExpr → Kinds
type_kinds = fold-TypeExpr Kinds Kinds type_step field_step

unfoldable pub field_kinds : Field → Kinds
field_kinds = fold-Field Kinds Kinds type_step field_step
