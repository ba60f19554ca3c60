-- The equations of statements with their places aside, and of their ends.
use Rattle.std.proofs.Common.{◌≡◌, ℕ, Bool, true, false, List, ◌∷◌, ◌++◌, Option, Some, None, map, ap, sym, ◌∙◌}
use Rattle.std.specs.Option.{option_map}
use Rattle.smv_core.specs.declared.tree.Word.{Word}
use Rattle.smv_core.specs.declared.tree.TypeExpr.{TypeExpr}
use Rattle.smv_core.specs.declared.tree.Expr.{Expr}
use Rattle.smv_core.specs.declared.tree.Path.{Path}
use Rattle.smv_core.specs.declared.tree.Kind.{Kind}
use Rattle.smv_core.specs.declared.tree.Stmt.{Stmt, fold-roll-Stmt}
use Rattle.smv_core.specs.declared.tree.Stmt.TheVariants as stmt
use Rattle.smv_core.specs.declared.tree.Stmt.TheOpen.{Stmt-F}
use Rattle.smv_core.specs.declared.tree.Arm.{Arm, roll-Arm, fold-roll-Arm}
use Rattle.smv_core.specs.Signs.{colon, comma}
use Rattle.smv_core.specs.OpenIf.{ends_in_open_if, open_at}
use Rattle.smv_print.specs.Written.{Kinds, separated}
use Rattle.smv_print.specs.Expressions.{expr_kinds}
use Rattle.smv_print.specs.Statements.{stmt_kinds, arm_kinds, stmt_step, arm_step}
use Rattle.law_print_and_parse.specs.Aside.{word_aside, type_aside, expr_aside, path_aside, stmt_aside, arm_aside, stmt_aside_step, arm_aside_step}

pub stmt-Assign : (k : Kind) (left : Path) (x : Expr) (at : ℕ) → stmt_aside (stmt.Assign k left x at) ≡ stmt.Assign k (path_aside left) (expr_aside x) 0
unfolding stmt_aside arm_aside
stmt-Assign k left x at = ap stmt_aside (sym (stmt.rolls-Assign k left x at)) ∙ fold-roll-Stmt Stmt Arm stmt_aside_step arm_aside_step (Stmt-F.Assign k left x at)

pub open-Assign : (k : Kind) (left : Path) (x : Expr) (at : ℕ) → ends_in_open_if (stmt.Assign k left x at) ≡ false
open-Assign k left x at = ap ends_in_open_if (sym (stmt.rolls-Assign k left x at)) ∙ fold-roll-Stmt Bool Bool open_at (λ arm. false) (Stmt-F.Assign k left x at)

pub stmt-Block : (parts : List Stmt) → stmt_aside (stmt.Block parts) ≡ stmt.Block (map stmt_aside parts)
unfolding stmt_aside arm_aside
stmt-Block parts = ap stmt_aside (sym (stmt.rolls-Block parts)) ∙ fold-roll-Stmt Stmt Arm stmt_aside_step arm_aside_step (Stmt-F.Block parts)

pub open-Block : (parts : List Stmt) → ends_in_open_if (stmt.Block parts) ≡ false
open-Block parts = ap ends_in_open_if (sym (stmt.rolls-Block parts)) ∙ fold-roll-Stmt Bool Bool open_at (λ arm. false) (Stmt-F.Block parts)

pub stmt-Default : (x y : Stmt) (at : ℕ) → stmt_aside (stmt.Default x y at) ≡ stmt.Default (stmt_aside x) (stmt_aside y) 0
unfolding stmt_aside arm_aside
stmt-Default x y at = ap stmt_aside (sym (stmt.rolls-Default x y at)) ∙ fold-roll-Stmt Stmt Arm stmt_aside_step arm_aside_step (Stmt-F.Default x y at)

pub open-Default : (x y : Stmt) (at : ℕ) → ends_in_open_if (stmt.Default x y at) ≡ ends_in_open_if y
open-Default x y at = ap ends_in_open_if (sym (stmt.rolls-Default x y at)) ∙ fold-roll-Stmt Bool Bool open_at (λ arm. false) (Stmt-F.Default x y at)

pub stmt-For : (v : Word) (from to : ℕ) (closed : Bool) (step : ℕ) (body : Stmt) (at : ℕ) → stmt_aside (stmt.For v from to closed step body at) ≡ stmt.For (word_aside v) from to closed step (stmt_aside body) 0
unfolding stmt_aside arm_aside
stmt-For v from to closed step body at = ap stmt_aside (sym (stmt.rolls-For v from to closed step body at)) ∙ fold-roll-Stmt Stmt Arm stmt_aside_step arm_aside_step (Stmt-F.For v from to closed step body at)

pub open-For : (v : Word) (from to : ℕ) (closed : Bool) (step : ℕ) (body : Stmt) (at : ℕ) → ends_in_open_if (stmt.For v from to closed step body at) ≡ ends_in_open_if body
open-For v from to closed step body at = ap ends_in_open_if (sym (stmt.rolls-For v from to closed step body at)) ∙ fold-roll-Stmt Bool Bool open_at (λ arm. false) (Stmt-F.For v from to closed step body at)

pub stmt-Forall : (v : Word) (over : TypeExpr) (body : Stmt) (at : ℕ) → stmt_aside (stmt.Forall v over body at) ≡ stmt.Forall (word_aside v) (type_aside over) (stmt_aside body) 0
unfolding stmt_aside arm_aside
stmt-Forall v over body at = ap stmt_aside (sym (stmt.rolls-Forall v over body at)) ∙ fold-roll-Stmt Stmt Arm stmt_aside_step arm_aside_step (Stmt-F.Forall v over body at)

pub open-Forall : (v : Word) (over : TypeExpr) (body : Stmt) (at : ℕ) → ends_in_open_if (stmt.Forall v over body at) ≡ ends_in_open_if body
open-Forall v over body at = ap ends_in_open_if (sym (stmt.rolls-Forall v over body at)) ∙ fold-roll-Stmt Bool Bool open_at (λ arm. false) (Stmt-F.Forall v over body at)

pub stmt-If : (c : Expr) (x : Stmt) (y : Option Stmt) (at : ℕ) → stmt_aside (stmt.If c x y at) ≡ stmt.If (expr_aside c) (stmt_aside x) (option_map stmt_aside y) 0
unfolding stmt_aside arm_aside
stmt-If c x None at = ap stmt_aside (sym (stmt.rolls-If c x None at)) ∙ fold-roll-Stmt Stmt Arm stmt_aside_step arm_aside_step (Stmt-F.If c x None at)
stmt-If c x (Some y) at = ap stmt_aside (sym (stmt.rolls-If c x (Some y) at)) ∙ fold-roll-Stmt Stmt Arm stmt_aside_step arm_aside_step (Stmt-F.If c x (Some y) at)

pub open-If_without : (c : Expr) (x : Stmt) (at : ℕ) → ends_in_open_if (stmt.If c x None at) ≡ true
open-If_without c x at = ap ends_in_open_if (sym (stmt.rolls-If c x None at)) ∙ fold-roll-Stmt Bool Bool open_at (λ arm. false) (Stmt-F.If c x None at)

pub open-If_with : (c : Expr) (x : Stmt) (y : Stmt) (at : ℕ) → ends_in_open_if (stmt.If c x (Some y) at) ≡ ends_in_open_if y
open-If_with c x y at = ap ends_in_open_if (sym (stmt.rolls-If c x (Some y) at)) ∙ fold-roll-Stmt Bool Bool open_at (λ arm. false) (Stmt-F.If c x (Some y) at)

pub stmt-Switch : (on : Expr) (arms : List Arm) (y : Option Stmt) (at : ℕ) → stmt_aside (stmt.Switch on arms y at) ≡ stmt.Switch (expr_aside on) (map arm_aside arms) (option_map stmt_aside y) 0
unfolding stmt_aside arm_aside
stmt-Switch on arms None at = ap stmt_aside (sym (stmt.rolls-Switch on arms None at)) ∙ fold-roll-Stmt Stmt Arm stmt_aside_step arm_aside_step (Stmt-F.Switch on arms None at)
stmt-Switch on arms (Some y) at = ap stmt_aside (sym (stmt.rolls-Switch on arms (Some y) at)) ∙ fold-roll-Stmt Stmt Arm stmt_aside_step arm_aside_step (Stmt-F.Switch on arms (Some y) at)

pub open-Switch_without : (on : Expr) (arms : List Arm) (at : ℕ) → ends_in_open_if (stmt.Switch on arms None at) ≡ false
open-Switch_without on arms at = ap ends_in_open_if (sym (stmt.rolls-Switch on arms None at)) ∙ fold-roll-Stmt Bool Bool open_at (λ arm. false) (Stmt-F.Switch on arms None at)

pub open-Switch_with : (on : Expr) (arms : List Arm) (y : Stmt) (at : ℕ) → ends_in_open_if (stmt.Switch on arms (Some y) at) ≡ false
open-Switch_with on arms y at = ap ends_in_open_if (sym (stmt.rolls-Switch on arms (Some y) at)) ∙ fold-roll-Stmt Bool Bool open_at (λ arm. false) (Stmt-F.Switch on arms (Some y) at)

pub arm-aside : (labels : List Expr) (body : Stmt) → arm_aside (roll-Arm (record { labels = labels; body = body })) ≡ roll-Arm (record { labels = map expr_aside labels; body = stmt_aside body })
unfolding stmt_aside arm_aside
arm-aside labels body = fold-roll-Arm Stmt Arm stmt_aside_step arm_aside_step (record { labels = labels; body = body })

pub arm-rolled : (labels : List Expr) (body : Stmt) → arm_kinds (roll-Arm (record { labels = labels; body = body })) ≡ separated comma (map expr_kinds labels) ++ colon ∷ stmt_kinds body
unfolding stmt_kinds arm_kinds
arm-rolled labels body = fold-roll-Arm Kinds Kinds stmt_step arm_step (record { labels = labels; body = body })
