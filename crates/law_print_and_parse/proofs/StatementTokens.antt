-- The tokens of statements.
use Rattle.std.proofs.Common.{ℕ, Bool, true, false, List, ◌++◌, map, Option, Some, None, arith, rules}
use Rattle.smv_core.specs.declared.tree.Word.{Word}
use Rattle.smv_core.specs.declared.tree.TypeExpr.{TypeExpr}
use Rattle.smv_core.specs.declared.tree.Kind.{Kind}
use Rattle.smv_core.specs.declared.tree.Kind.TheVariants as kind
use Rattle.smv_core.specs.declared.tree.Path.{Path}
use Rattle.smv_core.specs.declared.tree.Expr.{Expr}
use Rattle.smv_core.specs.declared.tree.Stmt.{Stmt}
use Rattle.smv_core.specs.declared.tree.Stmt.TheVariants as stmt
use Rattle.smv_core.specs.declared.tree.Arm.{Arm, roll-Arm, fold-roll-Arm}
use Rattle.smv_core.specs.Signs.{comma}
use Rattle.smv_print.specs.Written.{Kinds, separated}
use Rattle.smv_print.specs.Expressions.{expr_kinds, path_kinds}
use Rattle.smv_print.specs.Statements.{stmt_kinds, arm_kinds, stmt_step, arm_step, target, binder, turns}
use Rattle.smv_print.proofs.StatementLaws as laws
use Rattle.law_print_and_parse.proofs.Good.{Good, IsNumber, Each, each-as, good-flat, good-separated, good-append, good-as, goods}
use Rattle.law_print_and_parse.proofs.Keeping.{Named, IfAny}
use Rattle.law_print_and_parse.proofs.TypeTokens.{GoodType}
use Rattle.law_print_and_parse.proofs.ExpressionTokens.{GoodExpr, GoodPath, good-expr}

abbrev pub GoodStmt : Stmt → Type 0
GoodStmt x = Good (stmt_kinds x)

abbrev pub GoodArm : Arm → Type 0
GoodArm x = Good (arm_kinds x)

good-target : (k : Kind) (ks : Kinds) → Good ks → Good (target k ks)
good-target kind.Comb ks good = good
good-target kind.Init ks good = search (rules, goods)
good-target kind.Next ks good = search (rules, goods)

pub good-binder : (v : Word) (over : TypeExpr) → Named v → GoodType over → Good (binder v over)
good-binder v over name type = search (rules, goods) depth 12

pub good-exprs : (xs : List Expr) → Each GoodExpr xs → Good (separated comma (map expr_kinds xs))
good-exprs xs all = good-separated comma expr_kinds xs (omega arith) (each-as xs (λ x good. good-expr x good) all)

pub stmt-assign : (k : Kind) (p : Path) (x : Expr) (at : ℕ) → GoodPath p → GoodExpr x → GoodStmt (stmt.Assign k p x at)
stmt-assign k p x at path value =
    good-as (laws.stmt-Assign k p x at) (let first = good-target k (path_kinds p) path in let inside = good-expr x value in search (rules, goods))

pub stmt-block : (parts : List Stmt) → Each GoodStmt parts → GoodStmt (stmt.Block parts)
stmt-block parts all = good-as (laws.stmt-Block parts) (let inside = good-flat stmt_kinds parts all in search (rules, goods))

pub stmt-if : (c : Expr) (x : Stmt) (y : Option Stmt) (at : ℕ) → GoodExpr c → GoodStmt x → IfAny GoodStmt y → GoodStmt (stmt.If c x y at)
stmt-if c x None at test first second = good-as (laws.stmt-if c x at) (let inside = good-expr c test in search (rules, goods))
stmt-if c x (Some y) at test first second = good-as (laws.stmt-else c x y at) (let inside = good-expr c test in search (rules, goods) depth 12)

pub stmt-switch : (on : Expr) (arms : List Arm) (other : Option Stmt) (at : ℕ) → GoodExpr on → Each GoodArm arms → IfAny GoodStmt other → GoodStmt (stmt.Switch on arms other at)
stmt-switch on arms None at test all good =
    good-as (laws.stmt-switch on arms at) (let inside = good-expr on test in let each = good-flat arm_kinds arms all in search (rules, goods) depth 14)
stmt-switch on arms (Some x) at test all good =
    good-as (laws.stmt-switch_default on arms x at) (let inside = good-expr on test in let each = good-flat arm_kinds arms all in search (rules, goods) depth 16)

pub stmt-default : (x y : Stmt) (at : ℕ) → GoodStmt x → GoodStmt y → GoodStmt (stmt.Default x y at)
stmt-default x y at first second = good-as (laws.stmt-Default x y at) (search (rules, goods))

good-turns : (v : List ℕ) (from to : ℕ) (closed : Bool) (step : ℕ) (ks : Kinds) → Named (record { name = v; at = 0 }) → IsNumber from → IsNumber to → IsNumber step → Good ks →
    Good (turns v from to closed step ++ ks)
good-turns v from to true step ks name a b c good = search (rules, goods) depth 24
good-turns v from to false step ks name a b c good = search (rules, goods) depth 24

pub stmt-for : (v : Word) (from to : ℕ) (closed : Bool) (step : ℕ) (body : Stmt) (at : ℕ) → Named v → IsNumber from → IsNumber to → IsNumber step → GoodStmt body →
    GoodStmt (stmt.For v from to closed step body at)
stmt-for v from to closed step body at name a b c good = good-as (laws.stmt-For v from to closed step body at) (let inside = good-turns v.name from to closed step (stmt_kinds body) name a b c good in search (rules, goods))

pub stmt-forall : (v : Word) (over : TypeExpr) (body : Stmt) (at : ℕ) → Named v → GoodType over → GoodStmt body → GoodStmt (stmt.Forall v over body at)
stmt-forall v over body at name type good = good-as (laws.stmt-Forall v over body at) (good-append (binder v over) (stmt_kinds body) (good-binder v over name type) good)

pub arm-good : (labels : List Expr) (body : Stmt) → Each GoodExpr labels → GoodStmt body → GoodArm (roll-Arm (record { labels = labels; body = body }))
unfolding stmt_kinds arm_kinds
arm-good labels body all good =
    good-as (fold-roll-Arm Kinds Kinds stmt_step arm_step (record { labels = labels; body = body })) (let first = good-exprs labels all in search (rules, goods))
