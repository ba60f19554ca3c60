-- Trees with their places aside: every offset is 0. Only the names of a reference are numbered, in the order of their offsets.
use Rattle.std.specs.Prelude.{ℕ, suc, List, [], ◌∷◌, ◌++◌, map, take, drop}
use Rattle.std.specs.Option.{option_map}
use Rattle.smv_core.specs.declared.tree.Word.{Word}
use Rattle.smv_core.specs.declared.tree.TypeExpr.{TypeExpr, fold-TypeExpr}
use Rattle.smv_core.specs.declared.tree.TypeExpr.TheVariants as type
use Rattle.smv_core.specs.declared.tree.TypeExpr.TheOpen.{TypeExpr-F}
use Rattle.smv_core.specs.declared.tree.Field.{Field, fold-Field, Field-F, roll-Field}
use Rattle.smv_core.specs.declared.tree.Expr.{Expr, fold-Expr}
use Rattle.smv_core.specs.declared.tree.Expr.TheVariants as expr
use Rattle.smv_core.specs.declared.tree.Expr.TheOpen.{Expr-F, Member-F, Part-F, Path-F}
use Rattle.smv_core.specs.declared.tree.Member.{Member, fold-Member}
use Rattle.smv_core.specs.declared.tree.Member.TheVariants as member
use Rattle.smv_core.specs.declared.tree.Part.{Part, fold-Part}
use Rattle.smv_core.specs.declared.tree.Part.TheVariants as part
use Rattle.smv_core.specs.declared.tree.Path.{Path, fold-Path, roll-Path}
use Rattle.smv_core.specs.declared.tree.Signed.{Signed, fold-Signed, Signed-F, roll-Signed}
use Rattle.smv_core.specs.declared.tree.Stmt.{Stmt, fold-Stmt}
use Rattle.smv_core.specs.declared.tree.Stmt.TheVariants as stmt
use Rattle.smv_core.specs.declared.tree.Stmt.TheOpen.{Stmt-F}
use Rattle.smv_core.specs.declared.tree.Arm.{Arm, fold-Arm, Arm-F, roll-Arm}
use Rattle.smv_core.specs.declared.tree.Item.{Item, fold-Item, Item-F}
use Rattle.smv_core.specs.declared.tree.Item.TheVariants as item
use Rattle.smv_core.specs.declared.tree.Pair.{Pair}
use Rattle.smv_core.specs.declared.tree.Ref.{Ref}
use Rattle.smv_core.specs.declared.tree.Use.{Use}
use Rattle.smv_core.specs.declared.tree.Use.TheVariants as uses
use Rattle.smv_core.specs.declared.tree.Top.{Top}
use Rattle.smv_core.specs.declared.tree.Top.TheVariants as top
use Rattle.smv_core.specs.declared.tree.Text.{Text}
use Rattle.smv_core.specs.Grammar.{RefPart, Dotted, Bracketed, dotted, bracketed}
use Rattle.smv_print.specs.Items.{count_before}

abbrev pub word_aside : Word → Word
word_aside x = record { name = x.name; at = 0 }

-- ---- types

abbrev pub type_aside_step : TypeExpr-F TypeExpr Field → TypeExpr
type_aside_step TypeExpr-F.Boolean = type.Boolean
type_aside_step (TypeExpr-F.Range span at) = type.Range span 0
type_aside_step (TypeExpr-F.Enum names at) = type.Enum (map word_aside names) 0
type_aside_step (TypeExpr-F.Named name at) = type.Named (word_aside name) 0
type_aside_step (TypeExpr-F.Array index of) = type.Array index of
type_aside_step (TypeExpr-F.Struct fields) = type.Struct fields

abbrev pub field_aside_step : Field-F TypeExpr Field → Field
field_aside_step f = roll-Field (record { names = map word_aside f.names; of = f.of; at = 0 })

unfoldable pub type_aside : TypeExpr → TypeExpr
type_aside = fold-TypeExpr TypeExpr Field type_aside_step field_aside_step

unfoldable pub field_aside : Field → Field
field_aside = fold-Field TypeExpr Field type_aside_step field_aside_step

-- ---- expressions

abbrev pub expr_aside_step : Expr-F Expr Member Part Path Signed → Expr
expr_aside_step (Expr-F.Number value at) = expr.Number value 0
expr_aside_step (Expr-F.Signal path) = expr.Signal path
expr_aside_step (Expr-F.Not x at) = expr.Not x 0
expr_aside_step (Expr-F.And parts) = expr.And parts
expr_aside_step (Expr-F.Or parts) = expr.Or parts
expr_aside_step (Expr-F.Implies parts) = expr.Implies parts
expr_aside_step (Expr-F.Iff x y) = expr.Iff x y
expr_aside_step (Expr-F.Compare o x y) = expr.Compare o x y
expr_aside_step (Expr-F.Within x set) = expr.Within x set
expr_aside_step (Expr-F.Sum x more) = expr.Sum x more
expr_aside_step (Expr-F.Modulo x by at) = expr.Modulo x by 0
expr_aside_step (Expr-F.Choose c x y) = expr.Choose c x y
expr_aside_step (Expr-F.All x v over at) = expr.All x (word_aside v) (type_aside over) 0
expr_aside_step (Expr-F.Any x v over at) = expr.Any x (word_aside v) (type_aside over) 0
expr_aside_step (Expr-F.List members at) = expr.List members 0
expr_aside_step (Expr-F.Each v over c at) = expr.Each (word_aside v) (type_aside over) c 0

abbrev pub member_aside_step : Member-F Expr Member Part Path Signed → Member
member_aside_step (Member-F.One x) = member.One x
member_aside_step (Member-F.Span span at) = member.Span span 0

abbrev pub part_aside_step : Part-F Expr Member Part Path Signed → Part
part_aside_step (Part-F.Field x) = part.Field (word_aside x)
part_aside_step (Part-F.At index) = part.At index

abbrev pub path_aside_step : Path-F Expr Member Part Path Signed → Path
path_aside_step p = roll-Path (record { parts = p.parts; at = 0 })

abbrev pub signed_aside_step : Signed-F Expr Member Part Path Signed → Signed
signed_aside_step s = roll-Signed (record { minus = s.minus; of = s.of })

unfoldable pub expr_aside : Expr → Expr
expr_aside = fold-Expr Expr Member Part Path Signed expr_aside_step member_aside_step part_aside_step path_aside_step signed_aside_step

unfoldable pub member_aside : Member → Member
member_aside = fold-Member Expr Member Part Path Signed expr_aside_step member_aside_step part_aside_step path_aside_step signed_aside_step

unfoldable pub part_aside : Part → Part
part_aside = fold-Part Expr Member Part Path Signed expr_aside_step member_aside_step part_aside_step path_aside_step signed_aside_step

unfoldable pub path_aside : Path → Path
path_aside = fold-Path Expr Member Part Path Signed expr_aside_step member_aside_step part_aside_step path_aside_step signed_aside_step

unfoldable pub signed_aside : Signed → Signed
signed_aside = fold-Signed Expr Member Part Path Signed expr_aside_step member_aside_step part_aside_step path_aside_step signed_aside_step

-- ---- statements

abbrev pub stmt_aside_step : Stmt-F Stmt Arm → Stmt
stmt_aside_step (Stmt-F.Assign kind left value at) = stmt.Assign kind (path_aside left) (expr_aside value) 0
stmt_aside_step (Stmt-F.Block parts) = stmt.Block parts
stmt_aside_step (Stmt-F.If c x y at) = stmt.If (expr_aside c) x y 0
stmt_aside_step (Stmt-F.Switch on arms other at) = stmt.Switch (expr_aside on) arms other 0
stmt_aside_step (Stmt-F.Default x y at) = stmt.Default x y 0
stmt_aside_step (Stmt-F.For v from to closed step body at) = stmt.For (word_aside v) from to closed step body 0
stmt_aside_step (Stmt-F.Forall v over body at) = stmt.Forall (word_aside v) (type_aside over) body 0

abbrev pub arm_aside_step : Arm-F Stmt Arm → Arm
arm_aside_step a = roll-Arm (record { labels = map expr_aside a.labels; body = a.body })

unfoldable pub stmt_aside : Stmt → Stmt
stmt_aside = fold-Stmt Stmt Arm stmt_aside_step arm_aside_step

unfoldable pub arm_aside : Arm → Arm
arm_aside = fold-Arm Stmt Arm stmt_aside_step arm_aside_step

-- ---- references

-- the names of a path behind its first, and the names in brackets, in the order of their offsets
abbrev pub interleaved : List Word → List Word → List RefPart
interleaved [] names = map Bracketed names
interleaved (x ∷ path) names = map Bracketed (take (count_before x.at names) names) ++ Dotted x ∷ interleaved path (drop (count_before x.at names) names)

-- each name stands at its number in the list
abbrev pub numbered : ℕ → List RefPart → List RefPart
numbered i [] = []
numbered i (Dotted x ∷ more) = Dotted (record { name = x.name; at = i }) ∷ numbered (suc i) more
numbered i (Bracketed x ∷ more) = Bracketed (record { name = x.name; at = i }) ∷ numbered (suc i) more

-- the names of a path, and those in brackets: the first stands at 0, and the others at their numbers
abbrev pub names_aside : List Word → List Word → List Word × List Word
names_aside [] names = ([], map word_aside names)
names_aside (x ∷ path) names = (word_aside x ∷ dotted (numbered 1 (interleaved path names)), bracketed (numbered 1 (interleaved path names)))

abbrev pub ref_aside : Ref → Ref
ref_aside r = record {
  path = (names_aside r.path r.names).0;
  names = (names_aside r.path r.names).1;
  layer = option_map word_aside r.layer;
  free = r.free;
  at = 0;
}

abbrev pub use_aside : Use → Use
use_aside (uses.Plain r) = uses.Plain (ref_aside r)
use_aside (uses.Early r) = uses.Early (ref_aside r)
use_aside (uses.Keep set names at) = uses.Keep (word_aside set) (map word_aside names) 0

-- ---- items

abbrev pub pair_aside : Pair → Pair
pair_aside p = record { left = expr_aside p.left; right = word_aside p.right; at = 0 }

abbrev pub item_aside_step : Item-F Item → Item
item_aside_step (Item-F.Declare how names of at) = item.Declare how (map word_aside names) (type_aside of) 0
item_aside_step (Item-F.Instance names m args at) = item.Instance (map word_aside names) (word_aside m) (map expr_aside args) 0
item_aside_step (Item-F.Layer x body at) = item.Layer (word_aside x) (map stmt_aside body) 0
item_aside_step (Item-F.Forall v over body at) = item.Forall (word_aside v) (type_aside over) body 0
item_aside_step (Item-F.Block items) = item.Block items
item_aside_step (Item-F.Claim x vars body at) = item.Claim (word_aside x) (map word_aside vars) (expr_aside body) 0
item_aside_step (Item-F.Split x vars of pairs at) = item.Split (word_aside x) (map word_aside vars) (ref_aside of) (map pair_aside pairs) 0
item_aside_step (Item-F.Using us proves at) = item.Using (map use_aside us) (map ref_aside proves) 0
item_aside_step (Item-F.Act act) = item.Act (stmt_aside act)

unfoldable pub item_aside : Item → Item
item_aside = fold-Item Item item_aside_step

-- ---- texts

abbrev pub top_aside : Top → Top
top_aside (top.SetType x ordered span at) = top.SetType (word_aside x) ordered span 0
top_aside (top.Alias x of at) = top.Alias (word_aside x) (type_aside of) 0
top_aside (top.Module x formals body at) = top.Module (word_aside x) (map word_aside formals) (map item_aside body) 0

abbrev pub text_aside : Text → Text
text_aside text = record { tops = map top_aside text.tops }
