-- The tokens of items and of a whole text.
use Rattle.std.proofs.Common.{ℕ, Bool, true, false, List, [], ◌∷◌, ◌++◌, take, drop, Option, Some, None, arith, rules}
use Rattle.smv_core.specs.declared.tree.Word.{Word}
use Rattle.smv_core.specs.declared.tree.Span.{Span}
use Rattle.smv_core.specs.declared.tree.TypeExpr.{TypeExpr}
use Rattle.smv_core.specs.declared.tree.Role.{Role}
use Rattle.smv_core.specs.declared.tree.Role.TheVariants as role
use Rattle.smv_core.specs.declared.tree.Pair.{Pair}
use Rattle.smv_core.specs.declared.tree.Ref.{Ref}
use Rattle.smv_core.specs.declared.tree.Use.{Use}
use Rattle.smv_core.specs.declared.tree.Use.TheVariants as uses
use Rattle.smv_core.specs.declared.tree.Expr.{Expr}
use Rattle.smv_core.specs.declared.tree.Stmt.{Stmt}
use Rattle.smv_core.specs.declared.tree.Item.{Item}
use Rattle.smv_core.specs.declared.tree.Item.TheVariants as item
use Rattle.smv_core.specs.declared.tree.Top.{Top}
use Rattle.smv_core.specs.declared.tree.Top.TheVariants as top
use Rattle.smv_core.specs.Signs.{comma, open_paren, close_paren}
use Rattle.smv_print.specs.Expressions.{spelled, sum}
use Rattle.smv_print.specs.Statements.{stmt_kinds, binder}
use Rattle.smv_print.specs.Items.{bracket, brackets, count_before, ref_parts, ref_path, ref_layer, ref_kinds, use_kinds, pair_kinds, role_kinds, subcase, cases, item_kinds}
use Rattle.smv_print.specs.Canonical.{top_kinds}
use Rattle.smv_print.proofs.ItemLaws as laws
use Rattle.law_print_and_parse.proofs.Good.{Good, Each, each-as, each-take, each-drop, good-none, good-token, good-flat, good-separated, good-append, good-as, goods}
use Rattle.law_print_and_parse.proofs.Keeping.{Named, IfAny}
use Rattle.law_print_and_parse.proofs.TypeTokens.{GoodType, GoodSpan, good-names}
use Rattle.law_print_and_parse.proofs.ExpressionTokens.{GoodExpr, good-expr, good-within}
use Rattle.law_print_and_parse.proofs.StatementTokens.{GoodStmt, good-binder, good-exprs}

abbrev pub GoodRef : Ref → Type 0
GoodRef x = Good (ref_kinds x)

abbrev pub GoodUse : Use → Type 0
GoodUse x = Good (use_kinds x)

abbrev pub GoodPair : Pair → Type 0
GoodPair x = Good (pair_kinds x)

abbrev pub GoodItem : Item → Type 0
GoodItem x = Good (item_kinds x)

abbrev pub GoodTop : Top → Type 0
GoodTop x = Good (top_kinds x)

-- ---- references

pub good-brackets : (names : List Word) → Each Named names → Good (brackets names)
unfolding brackets
good-brackets names all = good-flat bracket names (each-as names (λ x name. search (rules, goods)) all)

good-ref_parts : (path names : List Word) → Each Named path → Each Named names → Good (ref_parts path names)
good-ref_parts [] names dotted all = good-brackets names all
good-ref_parts (x ∷ path) names dotted all =
    let n = count_before x.at names in
    let front = good-brackets (take n names) (each-take Named n names all) in
    let name = dotted.0 in
    let rest = good-ref_parts path (drop n names) dotted.1 (each-drop Named n names all) in
    search (rules, goods)

good-ref_path : (path names : List Word) → Each Named path → Each Named names → Good (ref_path path names)
good-ref_path [] names dotted all = good-brackets names all
good-ref_path (x ∷ path) names dotted all = let name = dotted.0 in let rest = good-ref_parts path names dotted.1 all in search (rules, goods)

good-ref_layer : (layer : Option Word) (free : Bool) → IfAny Named layer → Good (ref_layer layer free)
good-ref_layer (Some l) free name = search (rules, goods)
good-ref_layer None true name = search (rules, goods)
good-ref_layer None false name = good-none

pub ref-good : (path names : List Word) (layer : Option Word) (free : Bool) (at : ℕ) → Each Named path → Each Named names → IfAny Named layer →
    GoodRef (record { path = path; names = names; layer = layer; free = free; at = at })
ref-good path names layer free at dotted all name = good-append (ref_path path names) (ref_layer layer free) (good-ref_path path names dotted all) (good-ref_layer layer free name)

pub use-plain : (r : Ref) → GoodRef r → GoodUse (uses.Plain r)
use-plain r good = good

pub use-early : (r : Ref) → GoodRef r → GoodUse (uses.Early r)
use-early r good = good-token open_paren (ref_kinds r ++ close_paren ∷ []) (omega arith) (good-append (ref_kinds r) (close_paren ∷ []) good (search (rules, goods)))

pub use-keep : (x : Word) (names : List Word) (at : ℕ) → Named x → Each Named names → GoodUse (uses.Keep x names at)
use-keep x names at name all = let inside = good-names names all in search (rules, goods)

pub pair-good : (x : Expr) (y : Word) (at : ℕ) → GoodExpr x → Named y → GoodPair (record { left = x; right = y; at = at })
pair-good x y at good name = let first = good-within sum (spelled x) good in search (rules, goods)

-- ---- items

good-role : (how : Role) → Good (role_kinds how)
good-role role.Plain = good-none
good-role role.Abstract = search (rules, goods)
good-role role.Input = search (rules, goods)
good-role role.Output = search (rules, goods)

pub item-declare : (how : Role) (names : List Word) (of : TypeExpr) (at : ℕ) → Each Named names → GoodType of → GoodItem (item.Declare how names of at)
item-declare how names of at all good =
    good-as (laws.item-Declare how names of at) (let first = good-role how in let second = good-names names all in search (rules, goods))

pub item-instance : (names : List Word) (m : Word) (args : List Expr) (at : ℕ) → Each Named names → Named m → Each GoodExpr args → GoodItem (item.Instance names m args at)
item-instance names m args at all name good = good-as (laws.item-Instance names m args at) (let first = good-names names all in let second = good-exprs args good in search (rules, goods) depth 14)

pub item-layer : (x : Word) (body : List Stmt) (at : ℕ) → Named x → Each GoodStmt body → GoodItem (item.Layer x body at)
item-layer x body at name all = good-as (laws.item-Layer x body at) (let inside = good-flat stmt_kinds body all in search (rules, goods) depth 12)

pub item-forall : (v : Word) (over : TypeExpr) (body : Item) (at : ℕ) → Named v → GoodType over → GoodItem body → GoodItem (item.Forall v over body at)
item-forall v over body at name type good = good-as (laws.item-Forall v over body at) (good-append (binder v over) (item_kinds body) (good-binder v over name type) good)

pub item-block : (items : List Item) → Each GoodItem items → GoodItem (item.Block items)
item-block items all = good-as (laws.item-Block items) (let inside = good-flat item_kinds items all in search (rules, goods))

pub item-claim : (x : Word) (vars : List Word) (body : Expr) (at : ℕ) → Named x → Each Named vars → GoodExpr body → GoodItem (item.Claim x vars body at)
item-claim x vars body at name all good = good-as (laws.item-Claim x vars body at) (let first = good-brackets vars all in let inside = good-expr body good in search (rules, goods) depth 14)

pub item-split : (x : Word) (vars : List Word) (of : Ref) (pairs : List Pair) (at : ℕ) → Named x → Each Named vars → GoodRef of → Each GoodPair pairs → GoodItem (item.Split x vars of pairs at)
item-split x vars of pairs at name all good each =
    good-as (laws.item-Split x vars of pairs at)
    (good-append (subcase x vars ++ ref_kinds of) (cases pairs)
    (good-append (subcase x vars) (ref_kinds of) (let first = good-brackets vars all in search (rules, goods)) good)
    (let last = good-separated comma pair_kinds pairs (omega arith) each in search (rules, goods)))

pub item-using : (us : List Use) (proves : List Ref) (at : ℕ) → Each GoodUse us → Each GoodRef proves → GoodItem (item.Using us proves at)
item-using us proves at all each =
    good-as (laws.item-Using us proves at)
    (let first = good-separated comma use_kinds us (omega arith) all in let second = good-separated comma ref_kinds proves (omega arith) each in search (rules, goods) depth 12)

pub item-act : (x : Stmt) → GoodStmt x → GoodItem (item.Act x)
item-act x good = good-as (laws.item-Act x) good

-- ---- tops

pub top-set_type : (x : Word) (ordered : Bool) (span : Option Span) (at : ℕ) → Named x → IfAny GoodSpan span → GoodTop (top.SetType x ordered span at)
top-set_type x true None at name good = search (rules, goods)
top-set_type x true (Some s) at name good = search (rules, goods)
top-set_type x false None at name good = search (rules, goods)
top-set_type x false (Some s) at name good = search (rules, goods)

pub top-alias : (x : Word) (of : TypeExpr) (at : ℕ) → Named x → GoodType of → GoodTop (top.Alias x of at)
top-alias x of at name good = search (rules, goods)

pub top-module : (x : Word) (formals : List Word) (body : List Item) (at : ℕ) → Named x → Each Named formals → Each GoodItem body → GoodTop (top.Module x formals body at)
top-module x formals body at name all each = let first = good-names formals all in let inside = good-flat item_kinds body each in search (rules, goods) depth 14
