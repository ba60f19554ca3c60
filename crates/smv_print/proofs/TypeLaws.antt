-- The equations of the tokens of types.
use Rattle.std.proofs.Common.{◌≡◌, List, [], ◌∷◌, ◌++◌, ap, sym, ◌∙◌}
use Rattle.std.specs.List.{flat_map}
use Rattle.smv_core.specs.declared.tree.TypeExpr.{fold-roll-TypeExpr}
use Rattle.smv_core.specs.declared.tree.TypeExpr.TheVariants as type
use Rattle.smv_core.specs.declared.tree.TypeExpr.TheVariants.{rolls-Struct}
use Rattle.smv_core.specs.declared.tree.TypeExpr.TheOpen.{TypeExpr-F}
use Rattle.smv_core.specs.declared.tree.Field.{Field, out-Field, fold_out-Field}
use Rattle.smv_core.specs.Signs.{open_brace, close_brace, colon, semicolon}
use Rattle.smv_core.specs.Signs as w
use Rattle.smv_print.specs.Written.{Kinds}
use Rattle.smv_print.specs.Types.{type_kinds, field_kinds, names_kinds, type_step, field_step}
use Rattle.smv_print.proofs.Writing.{flat_map-each}

pub struct-kinds : (fields : List Field) → type_kinds (type.Struct fields) ≡ w.word_struct ∷ open_brace ∷ flat_map field_kinds fields ++ close_brace ∷ []
unfolding type_kinds field_kinds
struct-kinds fields =
    ap type_kinds (sym (rolls-Struct fields)) ∙ fold-roll-TypeExpr Kinds Kinds type_step field_step (TypeExpr-F.Struct fields)
    ∙ ap (λ (ks : Kinds). w.word_struct ∷ open_brace ∷ ks ++ close_brace ∷ []) (flat_map-each field_kinds fields)

pub field-kinds : (x : Field) → field_kinds x ≡ names_kinds (out-Field x).names ++ colon ∷ type_kinds (out-Field x).of ++ semicolon ∷ []
unfolding type_kinds field_kinds
field-kinds x = fold_out-Field Kinds Kinds type_step field_step x

pub ruleset equations = (struct-kinds, field-kinds)
