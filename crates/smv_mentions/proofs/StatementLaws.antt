-- What statements say, on statements that are made of lists and values.
use Rattle.std.proofs.Common.{◌≡◌, ℕ, Bool, List, [], ◌∷◌, ◌++◌, Option, Some, None, refl, ap, ◌∙◌}
use Rattle.std.specs.List.{flat_map}
use Rattle.smv_core.specs.declared.tree.Word.{Word}
use Rattle.smv_core.specs.declared.tree.TypeExpr.{TypeExpr}
use Rattle.smv_core.specs.declared.tree.Kind.{Kind}
use Rattle.smv_core.specs.declared.tree.Path.{Path}
use Rattle.smv_core.specs.declared.tree.Expr.{Expr}
use Rattle.smv_core.specs.declared.tree.Arm.{Arm}
use Rattle.smv_core.specs.declared.tree.Stmt.{Stmt, Assign, Block, Block', If, Switch, Switch', Default, For, Forall, Held-Stmt-If-2, None', Row_of-Stmt, end_of-Stmt, more_of-Stmt, Row_of-Arm, end_of-Arm, more_of-Arm}
use Rattle.smv_core.specs.declared.tree.Stmt.{items-the_row-Stmt, items-the_row-Arm, items_hidden-the_row-Stmt-0, items_hidden-the_row-Arm-2}
use mathlib.Core.Former.{Count}
use Rattle.smv_mentions.specs.Mentions.{in_type, in_expr, in_stmt, in_block, in_arms, in_branch, in_arm, in_other, in_path, binder_in}
use Rattle.smv_mentions.proofs.Computing.{computing}

module _ (vars : List Word) where
  block-row : (n : _) (row : Row_of-Stmt n) → in_block vars row ≡ flat_map (in_stmt vars) (items-the_row-Stmt n row)
  unfolding in_stmt
  block-row n end_of-Stmt = refl
  block-row n (more_of-Stmt part rest) = ap (λ l. in_stmt vars part ++ l) (block-row _ rest)

  arms-row : (n : _) (row : Row_of-Arm n) → in_arms vars row ≡ flat_map (in_arm vars) (items-the_row-Arm n row)
  unfolding in_stmt computing
  arms-row n end_of-Arm = refl
  arms-row n (more_of-Arm labels body rest) = ap (λ l. flat_map (in_expr vars) labels ++ in_stmt vars body ++ l) (arms-row _ rest)

  abbrev stmts_of : Stmt → (n : Count) × Row_of-Stmt n
  stmts_of (Block' shape row) = (_, row)
  stmts_of _ = (_, end_of-Stmt)

  abbrev arms_of : Stmt → (n : Count) × Row_of-Arm n
  arms_of (Switch' on shape row other at) = (_, row)
  arms_of _ = (_, end_of-Arm)

  abbrev other_of : Stmt → Held-Stmt-If-2
  other_of (Switch' on shape row other at) = other
  other_of _ = None'

  other-held : (on : Expr) (arms : List Arm) (y : Option Stmt) (at : ℕ) → in_branch vars (other_of (Switch on arms y at)) ≡ in_other vars y
  unfolding in_stmt computing
  other-held on arms None at = refl
  other-held on arms (Some y) at = refl

  pub stmt-Assign : (kind : Kind) (left : Path) (value : Expr) (at : ℕ) → in_stmt vars (Assign kind left value at) ≡ in_path vars left ++ in_expr vars value
  unfolding in_stmt
  stmt-Assign kind left value at = refl

  pub stmt-Block : (parts : List Stmt) → in_stmt vars (Block parts) ≡ flat_map (in_stmt vars) parts
  unfolding in_stmt
  stmt-Block parts = block-row (stmts_of (Block parts)).0 (stmts_of (Block parts)).1 ∙ ap (λ l. flat_map (in_stmt vars) l) (items_hidden-the_row-Stmt-0 parts)

  pub stmt-If : (cond : Expr) (x : Stmt) (at : ℕ) → in_stmt vars (If cond x None at) ≡ in_expr vars cond ++ in_stmt vars x ++ []
  unfolding in_stmt computing
  stmt-If cond x at = refl

  pub stmt-If_else : (cond : Expr) (x y : Stmt) (at : ℕ) → in_stmt vars (If cond x (Some y) at) ≡ in_expr vars cond ++ in_stmt vars x ++ in_stmt vars y
  unfolding in_stmt computing
  stmt-If_else cond x y at = refl

  switch : (on : Expr) (arms : List Arm) (y : Option Stmt) (at : ℕ) → in_stmt vars (Switch on arms y at) ≡ in_expr vars on ++ flat_map (in_arm vars) arms ++ in_other vars y
  unfolding in_stmt
  switch on arms y at =
      let row : (n : Count) × Row_of-Arm n = arms_of (Switch on arms y at) in
      let e : in_arms vars row.1 ≡ flat_map (in_arm vars) arms = arms-row row.0 row.1 ∙ ap (λ l. flat_map (in_arm vars) l) (items_hidden-the_row-Arm-2 arms) in
      ap (λ l. in_expr vars on ++ l ++ in_branch vars (other_of (Switch on arms y at))) e ∙ ap (λ l. in_expr vars on ++ flat_map (in_arm vars) arms ++ l) (other-held on arms y at)

  pub stmt-Switch : (on : Expr) (arms : List Arm) (at : ℕ) → in_stmt vars (Switch on arms None at) ≡ in_expr vars on ++ flat_map (in_arm vars) arms ++ []
  stmt-Switch on arms at = switch on arms None at

  pub stmt-Switch_default : (on : Expr) (arms : List Arm) (y : Stmt) (at : ℕ) → in_stmt vars (Switch on arms (Some y) at) ≡ in_expr vars on ++ flat_map (in_arm vars) arms ++ in_stmt vars y
  stmt-Switch_default on arms y at = switch on arms (Some y) at

  pub stmt-Default : (x y : Stmt) (at : ℕ) → in_stmt vars (Default x y at) ≡ in_stmt vars x ++ in_stmt vars y
  unfolding in_stmt computing
  stmt-Default x y at = refl

  pub stmt-For : (var : Word) (from to : ℕ) (closed : Bool) (step : ℕ) (body : Stmt) (at : ℕ) → in_stmt vars (For var from to closed step body at) ≡ binder_in vars var ∷ in_stmt (vars ++ var ∷ []) body
  unfolding in_stmt computing
  stmt-For var from to closed step body at = refl

  pub stmt-Forall : (var : Word) (over : TypeExpr) (body : Stmt) (at : ℕ) → in_stmt vars (Forall var over body at) ≡ binder_in vars var ∷ in_type over ++ in_stmt (vars ++ var ∷ []) body
  unfolding in_stmt computing
  stmt-Forall var over body at = refl

pub ruleset equations = (stmt-Assign, stmt-Block, stmt-If, stmt-If_else, stmt-Switch, stmt-Switch_default, stmt-Default, stmt-For, stmt-Forall)
