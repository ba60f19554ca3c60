-- Which statements end in an `if` without `else`, statement by statement.
use Rattle.std.proofs.Common.{◌≡◌, ℕ, Bool, true, false, List, Option, Some, None, sym, ◌∙◌, ap}
use Rattle.smv_core.specs.declared.tree.Word.{Word}
use Rattle.smv_core.specs.declared.tree.Expr.{Expr}
use Rattle.smv_core.specs.declared.tree.Path.{Path}
use Rattle.smv_core.specs.declared.tree.TypeExpr.{TypeExpr}
use Rattle.smv_core.specs.declared.tree.Kind.{Kind}
use Rattle.smv_core.specs.declared.tree.Stmt.{Stmt}
use Rattle.smv_core.specs.declared.tree.Arm.{Arm}
use Rattle.smv_core.specs.declared.tree.Stmt.TheVariants as stmt
use Rattle.smv_core.specs.declared.tree.Stmt.TheOpen.{Stmt-F}
use Rattle.smv_core.specs.declared.tree.Stmt.TheFolds.{fold-roll-Stmt}
use Rattle.smv_core.specs.OpenIf.{ends_in_open_if, open_at}

pub if-alone : (c : Expr) (x : Stmt) (at : ℕ) → ends_in_open_if (stmt.If c x None at) ≡ true
if-alone c x at = ap ends_in_open_if (sym (stmt.rolls-If c x None at)) ∙ fold-roll-Stmt Bool Bool open_at (λ arm. false) (Stmt-F.If c x None at)

pub if-else : (c : Expr) (x y : Stmt) (at : ℕ) → ends_in_open_if (stmt.If c x (Some y) at) ≡ ends_in_open_if y
if-else c x y at = ap ends_in_open_if (sym (stmt.rolls-If c x (Some y) at)) ∙ fold-roll-Stmt Bool Bool open_at (λ arm. false) (Stmt-F.If c x (Some y) at)

pub default-open : (x y : Stmt) (at : ℕ) → ends_in_open_if (stmt.Default x y at) ≡ ends_in_open_if y
default-open x y at = ap ends_in_open_if (sym (stmt.rolls-Default x y at)) ∙ fold-roll-Stmt Bool Bool open_at (λ arm. false) (Stmt-F.Default x y at)

pub for-open : (v : Word) (from to : ℕ) (closed : Bool) (step : ℕ) (body : Stmt) (at : ℕ) → ends_in_open_if (stmt.For v from to closed step body at) ≡ ends_in_open_if body
for-open v from to closed step body at = ap ends_in_open_if (sym (stmt.rolls-For v from to closed step body at)) ∙ fold-roll-Stmt Bool Bool open_at (λ arm. false) (Stmt-F.For v from to closed step body at)

pub forall-open : (v : Word) (over : TypeExpr) (body : Stmt) (at : ℕ) → ends_in_open_if (stmt.Forall v over body at) ≡ ends_in_open_if body
forall-open v over body at = ap ends_in_open_if (sym (stmt.rolls-Forall v over body at)) ∙ fold-roll-Stmt Bool Bool open_at (λ arm. false) (Stmt-F.Forall v over body at)

pub assign-closed : (k : Kind) (p : Path) (x : Expr) (at : ℕ) → ends_in_open_if (stmt.Assign k p x at) ≡ false
assign-closed k p x at = ap ends_in_open_if (sym (stmt.rolls-Assign k p x at)) ∙ fold-roll-Stmt Bool Bool open_at (λ arm. false) (Stmt-F.Assign k p x at)

pub block-closed : (parts : List Stmt) → ends_in_open_if (stmt.Block parts) ≡ false
block-closed parts = ap ends_in_open_if (sym (stmt.rolls-Block parts)) ∙ fold-roll-Stmt Bool Bool open_at (λ arm. false) (Stmt-F.Block parts)

pub switch-closed : (x : Expr) (arms : List Arm) (other : Option Stmt) (at : ℕ) → ends_in_open_if (stmt.Switch x arms other at) ≡ false
switch-closed x arms other at = ap ends_in_open_if (sym (stmt.rolls-Switch x arms other at)) ∙ fold-roll-Stmt Bool Bool open_at (λ arm. false) (Stmt-F.Switch x arms other at)
