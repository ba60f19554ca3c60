-- The tokens of types.
use Rattle.std.proofs.Common.{ℕ, List, [], ap, sym, ◌∙◌, arith, rules}
use Rattle.smv_core.specs.declared.tree.Word.{Word}
use Rattle.smv_core.specs.declared.tree.Span.{Span}
use Rattle.smv_core.specs.declared.tree.TypeExpr.{TypeExpr, fold-roll-TypeExpr}
use Rattle.smv_core.specs.declared.tree.TypeExpr.TheVariants as type
use Rattle.smv_core.specs.declared.tree.TypeExpr.TheOpen.{TypeExpr-F}
use Rattle.smv_core.specs.declared.tree.Field.{Field, roll-Field, fold-roll-Field}
use Rattle.smv_core.specs.Signs.{comma}
use Rattle.smv_print.specs.Written.{Kinds}
use Rattle.smv_print.specs.Types.{word_kinds, names_kinds, span_kinds, type_kinds, field_kinds, type_step, field_step}
use Rattle.smv_print.proofs.TypeLaws.{struct-kinds}
use Rattle.law_print_and_parse.proofs.Good.{Good, IsNumber, Each, each-as, good-none, good-name, good-flat, good-separated, good-as, goods}
use Rattle.law_print_and_parse.proofs.Keeping.{Named}

abbrev pub GoodType : TypeExpr → Type 0
GoodType t = Good (type_kinds t)

abbrev pub GoodField : Field → Type 0
GoodField f = Good (field_kinds f)

abbrev pub GoodSpan : Span → Type 0
GoodSpan s = Good (span_kinds s)

pub good-span : (low high : ℕ) → IsNumber low → IsNumber high → GoodSpan (record { low = low; high = high })
good-span low high l h = search (rules, goods)

pub good-names : (names : List Word) → Each Named names → Good (names_kinds names)
unfolding names_kinds
good-names names all = good-separated comma word_kinds names (omega arith) (each-as names (λ x name. good-name x.name [] name good-none) all)

pub type-boolean : GoodType type.Boolean
unfolding type_kinds field_kinds
type-boolean = good-as (ap type_kinds (sym type.rolls-Boolean) ∙ fold-roll-TypeExpr Kinds Kinds type_step field_step TypeExpr-F.Boolean) (search (rules, goods))

pub type-range : (span : Span) (at : ℕ) → GoodSpan span → GoodType (type.Range span at)
unfolding type_kinds field_kinds
type-range span at good = good-as (ap type_kinds (sym (type.rolls-Range span at)) ∙ fold-roll-TypeExpr Kinds Kinds type_step field_step (TypeExpr-F.Range span at)) good

pub type-enum : (names : List Word) (at : ℕ) → Each Named names → GoodType (type.Enum names at)
unfolding type_kinds field_kinds
type-enum names at all =
    good-as (ap type_kinds (sym (type.rolls-Enum names at)) ∙ fold-roll-TypeExpr Kinds Kinds type_step field_step (TypeExpr-F.Enum names at)) (search (rules, goods, good-names))

pub type-named : (x : Word) (at : ℕ) → Named x → GoodType (type.Named x at)
unfolding type_kinds field_kinds
type-named x at name =
    good-as (ap type_kinds (sym (type.rolls-Named x at)) ∙ fold-roll-TypeExpr Kinds Kinds type_step field_step (TypeExpr-F.Named x at)) (search (rules, goods))

pub type-array : (over of : TypeExpr) → GoodType over → GoodType of → GoodType (type.Array over of)
unfolding type_kinds field_kinds
type-array over of left right =
    good-as (ap type_kinds (sym (type.rolls-Array over of)) ∙ fold-roll-TypeExpr Kinds Kinds type_step field_step (TypeExpr-F.Array over of)) (search (rules, goods))

pub type-struct : (fields : List Field) → Each GoodField fields → GoodType (type.Struct fields)
type-struct fields all = good-as (struct-kinds fields) (let inside = good-flat field_kinds fields all in search (rules, goods))

pub field-good : (names : List Word) (of : TypeExpr) (at : ℕ) → Each Named names → GoodType of → GoodField (roll-Field (record { names = names; of = of; at = at }))
unfolding type_kinds field_kinds
field-good names of at all good =
    good-as (fold-roll-Field Kinds Kinds type_step field_step (record { names = names; of = of; at = at })) (search (rules, goods, good-names))
