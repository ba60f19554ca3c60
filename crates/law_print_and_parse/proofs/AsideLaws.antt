-- The equations of trees with their places aside, and of the tokens of types.
use Rattle.std.proofs.Common.{◌≡◌, ℕ, Bool, List, [], ◌∷◌, ◌++◌, Option, Some, None, map, ap, sym, ◌∙◌}
use Rattle.std.specs.Option.{option_map}
use Rattle.smv_core.specs.declared.tree.Word.{Word}
use Rattle.smv_core.specs.declared.tree.Span.{Span}
use Rattle.smv_core.specs.declared.tree.TypeExpr.{TypeExpr, fold-roll-TypeExpr}
use Rattle.smv_core.specs.declared.tree.TypeExpr.TheVariants as type
use Rattle.smv_core.specs.declared.tree.TypeExpr.TheOpen.{TypeExpr-F}
use Rattle.smv_core.specs.declared.tree.Field.{Field, roll-Field, fold-roll-Field}
use Rattle.smv_core.specs.declared.tree.Op.{Op}
use Rattle.smv_core.specs.declared.tree.Expr.{Expr, fold-roll-Expr}
use Rattle.smv_core.specs.declared.tree.Expr.TheVariants as expr
use Rattle.smv_core.specs.declared.tree.Expr.TheOpen.{Expr-F, Member-F, Part-F}
use Rattle.smv_core.specs.declared.tree.Member.{Member, fold-roll-Member}
use Rattle.smv_core.specs.declared.tree.Member.TheVariants as member
use Rattle.smv_core.specs.declared.tree.Part.{Part, fold-roll-Part}
use Rattle.smv_core.specs.declared.tree.Part.TheVariants as part
use Rattle.smv_core.specs.declared.tree.Path.{Path, roll-Path, fold-roll-Path}
use Rattle.smv_core.specs.declared.tree.Signed.{Signed, roll-Signed, fold-roll-Signed}
use Rattle.smv_core.specs.Signs.{open_brace, close_brace, colon, semicolon}
use Rattle.smv_core.specs.Signs as w
use Rattle.smv_print.specs.Written.{Kinds}
use Rattle.smv_print.specs.Types.{type_kinds, field_kinds, type_step, field_step, span_kinds, word_kinds, names_kinds}
use Rattle.smv_print.specs.Expressions.{Spelled, spelled, member_kinds, part_kinds, path_kinds, signed_kinds, expr_step, member_step, part_step, path_step, signed_step, within, primary, plus_or_minus, parts_kinds}
use Rattle.law_print_and_parse.specs.Aside.{word_aside, type_aside, field_aside, type_aside_step, field_aside_step, expr_aside, member_aside, part_aside, path_aside, signed_aside, expr_aside_step, member_aside_step, part_aside_step, path_aside_step, signed_aside_step}

pub kinds-Boolean : type_kinds type.Boolean ≡ w.word_boolean ∷ []
unfolding type_kinds field_kinds
kinds-Boolean = ap type_kinds (sym type.rolls-Boolean) ∙ fold-roll-TypeExpr Kinds Kinds type_step field_step TypeExpr-F.Boolean

pub kinds-Range : (span : Span) (at : ℕ) → type_kinds (type.Range span at) ≡ span_kinds span
unfolding type_kinds field_kinds
kinds-Range span at = ap type_kinds (sym (type.rolls-Range span at)) ∙ fold-roll-TypeExpr Kinds Kinds type_step field_step (TypeExpr-F.Range span at)

pub kinds-Named : (x : Word) (at : ℕ) → type_kinds (type.Named x at) ≡ word_kinds x
unfolding type_kinds field_kinds
kinds-Named x at = ap type_kinds (sym (type.rolls-Named x at)) ∙ fold-roll-TypeExpr Kinds Kinds type_step field_step (TypeExpr-F.Named x at)

pub kinds-Enum : (names : List Word) (at : ℕ) → type_kinds (type.Enum names at) ≡ open_brace ∷ names_kinds names ++ close_brace ∷ []
unfolding type_kinds field_kinds
kinds-Enum names at = ap type_kinds (sym (type.rolls-Enum names at)) ∙ fold-roll-TypeExpr Kinds Kinds type_step field_step (TypeExpr-F.Enum names at)

pub kinds-Array : (over of : TypeExpr) → type_kinds (type.Array over of) ≡ w.word_array ∷ type_kinds over ++ w.word_of ∷ type_kinds of
unfolding type_kinds field_kinds
kinds-Array over of = ap type_kinds (sym (type.rolls-Array over of)) ∙ fold-roll-TypeExpr Kinds Kinds type_step field_step (TypeExpr-F.Array over of)

pub aside-Boolean : type_aside type.Boolean ≡ type.Boolean
unfolding type_aside field_aside
aside-Boolean = ap type_aside (sym type.rolls-Boolean) ∙ fold-roll-TypeExpr TypeExpr Field type_aside_step field_aside_step TypeExpr-F.Boolean

pub aside-Range : (span : Span) (at : ℕ) → type_aside (type.Range span at) ≡ type.Range span 0
unfolding type_aside field_aside
aside-Range span at = ap type_aside (sym (type.rolls-Range span at)) ∙ fold-roll-TypeExpr TypeExpr Field type_aside_step field_aside_step (TypeExpr-F.Range span at)

pub aside-Named : (x : Word) (at : ℕ) → type_aside (type.Named x at) ≡ type.Named (word_aside x) 0
unfolding type_aside field_aside
aside-Named x at = ap type_aside (sym (type.rolls-Named x at)) ∙ fold-roll-TypeExpr TypeExpr Field type_aside_step field_aside_step (TypeExpr-F.Named x at)

pub aside-Enum : (names : List Word) (at : ℕ) → type_aside (type.Enum names at) ≡ type.Enum (map word_aside names) 0
unfolding type_aside field_aside
aside-Enum names at = ap type_aside (sym (type.rolls-Enum names at)) ∙ fold-roll-TypeExpr TypeExpr Field type_aside_step field_aside_step (TypeExpr-F.Enum names at)

pub aside-Array : (over of : TypeExpr) → type_aside (type.Array over of) ≡ type.Array (type_aside over) (type_aside of)
unfolding type_aside field_aside
aside-Array over of = ap type_aside (sym (type.rolls-Array over of)) ∙ fold-roll-TypeExpr TypeExpr Field type_aside_step field_aside_step (TypeExpr-F.Array over of)

pub aside-Struct : (fields : List Field) → type_aside (type.Struct fields) ≡ type.Struct (map field_aside fields)
unfolding type_aside field_aside
aside-Struct fields = ap type_aside (sym (type.rolls-Struct fields)) ∙ fold-roll-TypeExpr TypeExpr Field type_aside_step field_aside_step (TypeExpr-F.Struct fields)

pub aside-field : (names : List Word) (of : TypeExpr) (at : ℕ)
    → field_aside (roll-Field (record { names = names; of = of; at = at })) ≡ roll-Field (record { names = map word_aside names; of = type_aside of; at = 0 })
unfolding type_aside field_aside
aside-field names of at = fold-roll-Field TypeExpr Field type_aside_step field_aside_step (record { names = names; of = of; at = at })

pub field-rolled : (names : List Word) (of : TypeExpr) (at : ℕ) → field_kinds (roll-Field (record { names = names; of = of; at = at })) ≡ names_kinds names ++ colon ∷ type_kinds of ++ semicolon ∷ []
unfolding type_kinds field_kinds
field-rolled names of at = fold-roll-Field Kinds Kinds type_step field_step (record { names = names; of = of; at = at })

pub expr-Number : (value at : ℕ) → expr_aside (expr.Number value at) ≡ expr.Number value 0
unfolding expr_aside member_aside part_aside path_aside signed_aside
expr-Number value at = ap expr_aside (sym (expr.rolls-Number value at)) ∙ fold-roll-Expr Expr Member Part Path Signed expr_aside_step member_aside_step part_aside_step path_aside_step signed_aside_step (Expr-F.Number value at)

pub expr-Signal : (p : Path) → expr_aside (expr.Signal p) ≡ expr.Signal (path_aside p)
unfolding expr_aside member_aside part_aside path_aside signed_aside
expr-Signal p = ap expr_aside (sym (expr.rolls-Signal p)) ∙ fold-roll-Expr Expr Member Part Path Signed expr_aside_step member_aside_step part_aside_step path_aside_step signed_aside_step (Expr-F.Signal p)

pub expr-Not : (x : Expr) (at : ℕ) → expr_aside (expr.Not x at) ≡ expr.Not (expr_aside x) 0
unfolding expr_aside member_aside part_aside path_aside signed_aside
expr-Not x at = ap expr_aside (sym (expr.rolls-Not x at)) ∙ fold-roll-Expr Expr Member Part Path Signed expr_aside_step member_aside_step part_aside_step path_aside_step signed_aside_step (Expr-F.Not x at)

pub expr-And : (parts : List Expr) → expr_aside (expr.And parts) ≡ expr.And (map expr_aside parts)
unfolding expr_aside member_aside part_aside path_aside signed_aside
expr-And parts = ap expr_aside (sym (expr.rolls-And parts)) ∙ fold-roll-Expr Expr Member Part Path Signed expr_aside_step member_aside_step part_aside_step path_aside_step signed_aside_step (Expr-F.And parts)

pub expr-Or : (parts : List Expr) → expr_aside (expr.Or parts) ≡ expr.Or (map expr_aside parts)
unfolding expr_aside member_aside part_aside path_aside signed_aside
expr-Or parts = ap expr_aside (sym (expr.rolls-Or parts)) ∙ fold-roll-Expr Expr Member Part Path Signed expr_aside_step member_aside_step part_aside_step path_aside_step signed_aside_step (Expr-F.Or parts)

pub expr-Implies : (parts : List Expr) → expr_aside (expr.Implies parts) ≡ expr.Implies (map expr_aside parts)
unfolding expr_aside member_aside part_aside path_aside signed_aside
expr-Implies parts = ap expr_aside (sym (expr.rolls-Implies parts)) ∙ fold-roll-Expr Expr Member Part Path Signed expr_aside_step member_aside_step part_aside_step path_aside_step signed_aside_step (Expr-F.Implies parts)

pub expr-Iff : (x y : Expr) → expr_aside (expr.Iff x y) ≡ expr.Iff (expr_aside x) (expr_aside y)
unfolding expr_aside member_aside part_aside path_aside signed_aside
expr-Iff x y = ap expr_aside (sym (expr.rolls-Iff x y)) ∙ fold-roll-Expr Expr Member Part Path Signed expr_aside_step member_aside_step part_aside_step path_aside_step signed_aside_step (Expr-F.Iff x y)

pub expr-Compare : (o : Op) (x y : Expr) → expr_aside (expr.Compare o x y) ≡ expr.Compare o (expr_aside x) (expr_aside y)
unfolding expr_aside member_aside part_aside path_aside signed_aside
expr-Compare o x y = ap expr_aside (sym (expr.rolls-Compare o x y)) ∙ fold-roll-Expr Expr Member Part Path Signed expr_aside_step member_aside_step part_aside_step path_aside_step signed_aside_step (Expr-F.Compare o x y)

pub expr-Within : (x set : Expr) → expr_aside (expr.Within x set) ≡ expr.Within (expr_aside x) (expr_aside set)
unfolding expr_aside member_aside part_aside path_aside signed_aside
expr-Within x set = ap expr_aside (sym (expr.rolls-Within x set)) ∙ fold-roll-Expr Expr Member Part Path Signed expr_aside_step member_aside_step part_aside_step path_aside_step signed_aside_step (Expr-F.Within x set)

pub expr-Sum : (x : Expr) (more : List Signed) → expr_aside (expr.Sum x more) ≡ expr.Sum (expr_aside x) (map signed_aside more)
unfolding expr_aside member_aside part_aside path_aside signed_aside
expr-Sum x more = ap expr_aside (sym (expr.rolls-Sum x more)) ∙ fold-roll-Expr Expr Member Part Path Signed expr_aside_step member_aside_step part_aside_step path_aside_step signed_aside_step (Expr-F.Sum x more)

pub expr-Modulo : (x : Expr) (by at : ℕ) → expr_aside (expr.Modulo x by at) ≡ expr.Modulo (expr_aside x) by 0
unfolding expr_aside member_aside part_aside path_aside signed_aside
expr-Modulo x by at = ap expr_aside (sym (expr.rolls-Modulo x by at)) ∙ fold-roll-Expr Expr Member Part Path Signed expr_aside_step member_aside_step part_aside_step path_aside_step signed_aside_step (Expr-F.Modulo x by at)

pub expr-Choose : (c x y : Expr) → expr_aside (expr.Choose c x y) ≡ expr.Choose (expr_aside c) (expr_aside x) (expr_aside y)
unfolding expr_aside member_aside part_aside path_aside signed_aside
expr-Choose c x y = ap expr_aside (sym (expr.rolls-Choose c x y)) ∙ fold-roll-Expr Expr Member Part Path Signed expr_aside_step member_aside_step part_aside_step path_aside_step signed_aside_step (Expr-F.Choose c x y)

pub expr-All : (x : Expr) (v : Word) (over : TypeExpr) (at : ℕ) → expr_aside (expr.All x v over at) ≡ expr.All (expr_aside x) (word_aside v) (type_aside over) 0
unfolding expr_aside member_aside part_aside path_aside signed_aside
expr-All x v over at = ap expr_aside (sym (expr.rolls-All x v over at)) ∙ fold-roll-Expr Expr Member Part Path Signed expr_aside_step member_aside_step part_aside_step path_aside_step signed_aside_step (Expr-F.All x v over at)

pub expr-Any : (x : Expr) (v : Word) (over : TypeExpr) (at : ℕ) → expr_aside (expr.Any x v over at) ≡ expr.Any (expr_aside x) (word_aside v) (type_aside over) 0
unfolding expr_aside member_aside part_aside path_aside signed_aside
expr-Any x v over at = ap expr_aside (sym (expr.rolls-Any x v over at)) ∙ fold-roll-Expr Expr Member Part Path Signed expr_aside_step member_aside_step part_aside_step path_aside_step signed_aside_step (Expr-F.Any x v over at)

pub expr-List : (members : List Member) (at : ℕ) → expr_aside (expr.List members at) ≡ expr.List (map member_aside members) 0
unfolding expr_aside member_aside part_aside path_aside signed_aside
expr-List members at = ap expr_aside (sym (expr.rolls-List members at)) ∙ fold-roll-Expr Expr Member Part Path Signed expr_aside_step member_aside_step part_aside_step path_aside_step signed_aside_step (Expr-F.List members at)

pub expr-Each : (v : Word) (over : TypeExpr) (c : Option Expr) (at : ℕ) → expr_aside (expr.Each v over c at) ≡ expr.Each (word_aside v) (type_aside over) (option_map expr_aside c) 0
unfolding expr_aside member_aside part_aside path_aside signed_aside
expr-Each v over None at = ap expr_aside (sym (expr.rolls-Each v over None at)) ∙ fold-roll-Expr Expr Member Part Path Signed expr_aside_step member_aside_step part_aside_step path_aside_step signed_aside_step (Expr-F.Each v over None at)
expr-Each v over (Some c) at = ap expr_aside (sym (expr.rolls-Each v over (Some c) at)) ∙ fold-roll-Expr Expr Member Part Path Signed expr_aside_step member_aside_step part_aside_step path_aside_step signed_aside_step (Expr-F.Each v over (Some c) at)

pub member-One : (x : Expr) → member_aside (member.One x) ≡ member.One (expr_aside x)
unfolding expr_aside member_aside part_aside path_aside signed_aside
member-One x = ap member_aside (sym (member.rolls-One x)) ∙ fold-roll-Member Expr Member Part Path Signed expr_aside_step member_aside_step part_aside_step path_aside_step signed_aside_step (Member-F.One x)

pub member-Span : (span : Span) (at : ℕ) → member_aside (member.Span span at) ≡ member.Span span 0
unfolding expr_aside member_aside part_aside path_aside signed_aside
member-Span span at = ap member_aside (sym (member.rolls-Span span at)) ∙ fold-roll-Member Expr Member Part Path Signed expr_aside_step member_aside_step part_aside_step path_aside_step signed_aside_step (Member-F.Span span at)

pub part-Field : (x : Word) → part_aside (part.Field x) ≡ part.Field (word_aside x)
unfolding expr_aside member_aside part_aside path_aside signed_aside
part-Field x = ap part_aside (sym (part.rolls-Field x)) ∙ fold-roll-Part Expr Member Part Path Signed expr_aside_step member_aside_step part_aside_step path_aside_step signed_aside_step (Part-F.Field x)

pub part-At : (index : Expr) → part_aside (part.At index) ≡ part.At (expr_aside index)
unfolding expr_aside member_aside part_aside path_aside signed_aside
part-At index = ap part_aside (sym (part.rolls-At index)) ∙ fold-roll-Part Expr Member Part Path Signed expr_aside_step member_aside_step part_aside_step path_aside_step signed_aside_step (Part-F.At index)

pub path-aside : (parts : List Part) (at : ℕ) → path_aside (roll-Path (record { parts = parts; at = at })) ≡ roll-Path (record { parts = map part_aside parts; at = 0 })
unfolding expr_aside member_aside part_aside path_aside signed_aside
path-aside parts at = fold-roll-Path Expr Member Part Path Signed expr_aside_step member_aside_step part_aside_step path_aside_step signed_aside_step (record { parts = parts; at = at })

pub path-rolled : (parts : List Part) (at : ℕ) → path_kinds (roll-Path (record { parts = parts; at = at })) ≡ parts_kinds (map part_kinds parts)
unfolding spelled member_kinds part_kinds path_kinds signed_kinds
path-rolled parts at = fold-roll-Path Spelled Kinds (Bool → Kinds) Kinds Kinds expr_step member_step part_step path_step signed_step (record { parts = parts; at = at })

pub signed-aside : (minus : Bool) (of : Expr) → signed_aside (roll-Signed (record { minus = minus; of = of })) ≡ roll-Signed (record { minus = minus; of = expr_aside of })
unfolding expr_aside member_aside part_aside path_aside signed_aside
signed-aside minus of = fold-roll-Signed Expr Member Part Path Signed expr_aside_step member_aside_step part_aside_step path_aside_step signed_aside_step (record { minus = minus; of = of })

pub signed-rolled : (minus : Bool) (of : Expr) → signed_kinds (roll-Signed (record { minus = minus; of = of })) ≡ plus_or_minus minus ∷ within primary (spelled of)
unfolding spelled member_kinds part_kinds path_kinds signed_kinds
signed-rolled minus of = fold-roll-Signed Spelled Kinds (Bool → Kinds) Kinds Kinds expr_step member_step part_step path_step signed_step (record { minus = minus; of = of })
