-- The first token of expressions that are made of lists and values.
use Rattle.std.proofs.Common.{◌≡◌, ℕ, List, Option, refl, ap, ◌∙◌}
use Rattle.smv_core.specs.declared.tree.Word.{Word}
use Rattle.smv_core.specs.declared.tree.TypeExpr.{TypeExpr}
use Rattle.smv_core.specs.declared.tree.Op.{Op}
use Rattle.smv_core.specs.declared.tree.Path.{Path, out-Path}
use Rattle.smv_core.specs.declared.tree.Signed.{Signed}
use Rattle.smv_core.specs.declared.tree.Member.{Member}
use Rattle.smv_core.specs.declared.tree.Expr.{Expr, Number, Signal, Not, And, And', Or, Or', Implies, Implies', Iff, Compare, Within, Sum, Modulo, Choose, All, Any, List as ListOf, Each}
use Rattle.smv_core.specs.declared.tree.Expr.{Row_of-Expr, end_of-Expr, more_of-Expr, items-the_row-Expr, items_hidden-the_row-Expr-2}
use mathlib.Core.Former.{Count}
use Rattle.smv_mentions.proofs.Computing.{computing}
use Rattle.law_designs.specs.Statements.{first_token_of}
use Rattle.smv_flatten_statements.specs.Flattened.{begins_at, first_begins_at}

row-first : (n : _) (row : Row_of-Expr n) → first_token_of row ≡ first_begins_at (items-the_row-Expr n row)
unfolding begins_at
row-first n end_of-Expr = refl
row-first n (more_of-Expr e rest) = refl

abbrev exprs_of : Expr → (n : Count) × Row_of-Expr n
exprs_of (And' shape row) = (_, row)
exprs_of (Or' shape row) = (_, row)
exprs_of (Implies' shape row) = (_, row)
exprs_of _ = (_, end_of-Expr)

pub first-Number : (value at : ℕ) → begins_at (Number value at) ≡ at
unfolding begins_at
first-Number value at = refl

pub first-Signal : (path : Path) → begins_at (Signal path) ≡ (out-Path path).at
unfolding begins_at
first-Signal path = refl

pub first-And : (parts : List Expr) → begins_at (And parts) ≡ first_begins_at parts
unfolding begins_at
first-And parts = row-first (exprs_of (And parts)).0 (exprs_of (And parts)).1 ∙ ap first_begins_at (items_hidden-the_row-Expr-2 parts)

pub first-Or : (parts : List Expr) → begins_at (Or parts) ≡ first_begins_at parts
unfolding begins_at
first-Or parts = row-first (exprs_of (Or parts)).0 (exprs_of (Or parts)).1 ∙ ap first_begins_at (items_hidden-the_row-Expr-2 parts)

pub first-Implies : (parts : List Expr) → begins_at (Implies parts) ≡ first_begins_at parts
unfolding begins_at
first-Implies parts = row-first (exprs_of (Implies parts)).0 (exprs_of (Implies parts)).1 ∙ ap first_begins_at (items_hidden-the_row-Expr-2 parts)

pub first-Not : (e : Expr) (at : ℕ) → begins_at (Not e at) ≡ at
unfolding begins_at
first-Not e at = refl

pub first-Iff : (x y : Expr) → begins_at (Iff x y) ≡ begins_at x
unfolding begins_at computing
first-Iff x y = refl

pub first-Compare : (op : Op) (x y : Expr) → begins_at (Compare op x y) ≡ begins_at x
unfolding begins_at computing
first-Compare op x y = refl

pub first-Within : (x y : Expr) → begins_at (Within x y) ≡ begins_at x
unfolding begins_at computing
first-Within x y = refl

pub first-Sum : (first : Expr) (more : List Signed) → begins_at (Sum first more) ≡ begins_at first
unfolding begins_at computing
first-Sum first more = refl

pub first-Modulo : (e : Expr) (by at : ℕ) → begins_at (Modulo e by at) ≡ begins_at e
unfolding begins_at computing
first-Modulo e by at = refl

pub first-Choose : (c x y : Expr) → begins_at (Choose c x y) ≡ begins_at c
unfolding begins_at computing
first-Choose c x y = refl

pub first-All : (body : Expr) (var : Word) (over : TypeExpr) (at : ℕ) → begins_at (All body var over at) ≡ at
unfolding begins_at
first-All body var over at = refl

pub first-Any : (body : Expr) (var : Word) (over : TypeExpr) (at : ℕ) → begins_at (Any body var over at) ≡ at
unfolding begins_at
first-Any body var over at = refl

pub first-List : (members : List Member) (at : ℕ) → begins_at (ListOf members at) ≡ at
unfolding begins_at
first-List members at = refl

pub first-Each : (var : Word) (over : TypeExpr) (cond : Option Expr) (at : ℕ) → begins_at (Each var over cond at) ≡ at
unfolding begins_at
first-Each var over cond at = refl

pub ruleset equations = (first-Number, first-Signal, first-And, first-Or, first-Implies, first-Not, first-Iff, first-Compare, first-Within, first-Sum, first-Modulo, first-Choose, first-All, first-Any, first-List, first-Each)
