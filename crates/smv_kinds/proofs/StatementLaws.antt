-- The faults in statements, on statements that are made of lists and values.
use Rattle.std.proofs.Common.{◌≡◌, ℕ, Bool, List, [], ◌∷◌, ◌++◌, map, refl, ap, ◌∙◌}
use Rattle.std.specs.Prelude.{Option, Some, None}
use Rattle.std.specs.List.{flat_map}
use Rattle.smv_core.specs.declared.fault.Fault.{Fault}
use Rattle.smv_core.specs.declared.tree.Word.{Word}
use Rattle.smv_core.specs.declared.tree.TypeExpr.{TypeExpr}
use Rattle.smv_core.specs.declared.tree.Kind.{Kind}
use Rattle.smv_core.specs.declared.tree.Path.{Path}
use Rattle.smv_core.specs.declared.tree.Expr.{Expr}
use Rattle.smv_core.specs.declared.tree.Arm.{Arm}
use Rattle.smv_core.specs.declared.tree.Stmt.{Stmt, Assign, Block, Block', If, Switch, Switch', Default, For, Forall, Held-Stmt-If-2, None', Row_of-Stmt, end_of-Stmt, more_of-Stmt, Row_of-Arm, end_of-Arm, more_of-Arm}
use Rattle.smv_core.specs.declared.tree.Stmt.{items-the_row-Stmt, items-the_row-Arm, items_hidden-the_row-Stmt-0, items_hidden-the_row-Arm-2}
use mathlib.Core.Former.{Count}
use Rattle.law_designs.specs.Kinds.{number, takes_number, alike}
use Rattle.law_designs.specs.Types.{index_faults}
use Rattle.law_designs.specs.References.{Scope, Vars}
use Rattle.law_designs.specs.Operands.{operand, value, target, bind}
use Rattle.law_designs.specs.KindFaults.{assigned, in_stmt, in_block, in_branch, in_arms, labels}
use Rattle.smv_kinds.specs.Found.{labels_of, arm_faults}
use Rattle.smv_mentions.proofs.Computing.{computing}

module _ (scope : Scope) (vars : Vars) where
  -- an `else` or `default`, or none
  abbrev pub in_other : Option Stmt → List Fault
  in_other None = []
  in_other (Some x) = in_stmt scope vars x

  block-row : (n : _) (row : Row_of-Stmt n) → in_block scope vars row ≡ flat_map (in_stmt scope vars) (items-the_row-Stmt n row)
  unfolding in_stmt
  block-row n end_of-Stmt = refl
  block-row n (more_of-Stmt part rest) = ap (λ l. in_stmt scope vars part ++ l) (block-row _ rest)

  arms-row : (n : _) (row : Row_of-Arm n) → in_arms scope vars row ≡ flat_map (arm_faults scope vars) (items-the_row-Arm n row)
  unfolding in_stmt arm_faults computing
  arms-row n end_of-Arm = refl
  arms-row n (more_of-Arm words body rest) = ap (λ l. in_stmt scope vars body ++ l) (arms-row _ rest)

  labels-row : (n : _) (row : Row_of-Arm n) → labels scope vars row ≡ flat_map (labels_of scope vars) (items-the_row-Arm n row)
  unfolding in_stmt labels_of computing
  labels-row n end_of-Arm = refl
  labels-row n (more_of-Arm words body rest) = ap (λ l. map (operand scope vars) words ++ l) (labels-row _ rest)

  abbrev stmts_of : Stmt → (n : Count) × Row_of-Stmt n
  stmts_of (Block' shape row) = (_, row)
  stmts_of _ = (_, end_of-Stmt)

  abbrev arms_of : Stmt → (n : Count) × Row_of-Arm n
  arms_of (Switch' on shape row other at) = (_, row)
  arms_of _ = (_, end_of-Arm)

  abbrev other_of : Stmt → Held-Stmt-If-2
  other_of (Switch' on shape row other at) = other
  other_of _ = None'

  other-held : (on : Expr) (arms : List Arm) (y : Option Stmt) (at : ℕ) → in_branch scope vars (other_of (Switch on arms y at)) ≡ in_other y
  unfolding in_stmt computing
  other-held on arms None at = refl
  other-held on arms (Some y) at = refl

  pub stmt-Assign : (kind : Kind) (left : Path) (right : Expr) (at : ℕ) → in_stmt scope vars (Assign kind left right at) ≡ assigned (target scope vars left) (value scope vars right)
  unfolding in_stmt
  stmt-Assign kind left right at = refl

  pub stmt-Block : (parts : List Stmt) → in_stmt scope vars (Block parts) ≡ flat_map (in_stmt scope vars) parts
  unfolding in_stmt
  stmt-Block parts = block-row (stmts_of (Block parts)).0 (stmts_of (Block parts)).1 ∙ ap (λ l. flat_map (in_stmt scope vars) l) (items_hidden-the_row-Stmt-0 parts)

  pub stmt-If : (cond : Expr) (x : Stmt) (at : ℕ) → in_stmt scope vars (If cond x None at) ≡ takes_number (operand scope vars cond) ++ in_stmt scope vars x ++ []
  unfolding in_stmt computing
  stmt-If cond x at = refl

  pub stmt-If_else : (cond : Expr) (x y : Stmt) (at : ℕ) → in_stmt scope vars (If cond x (Some y) at) ≡ takes_number (operand scope vars cond) ++ in_stmt scope vars x ++ in_stmt scope vars y
  unfolding in_stmt computing
  stmt-If_else cond x y at = refl

  switch : (on : Expr) (arms : List Arm) (y : Option Stmt) (at : ℕ)
      → in_stmt scope vars (Switch on arms y at) ≡ alike (operand scope vars on ∷ flat_map (labels_of scope vars) arms) ++ flat_map (arm_faults scope vars) arms ++ in_other y
  unfolding in_stmt
  switch on arms y at =
      let row : (n : Count) × Row_of-Arm n = arms_of (Switch on arms y at) in
      let e : in_arms scope vars row.1 ≡ flat_map (arm_faults scope vars) arms =
      arms-row row.0 row.1 ∙ ap (λ l. flat_map (arm_faults scope vars) l) (items_hidden-the_row-Arm-2 arms) in
      let f : labels scope vars row.1 ≡ flat_map (labels_of scope vars) arms = labels-row row.0 row.1 ∙ ap (λ l. flat_map (labels_of scope vars) l) (items_hidden-the_row-Arm-2 arms) in
      ap (λ l. alike (operand scope vars on ∷ l) ++ in_arms scope vars row.1 ++ in_branch scope vars (other_of (Switch on arms y at))) f
      ∙ ap (λ l. alike (operand scope vars on ∷ flat_map (labels_of scope vars) arms) ++ l ++ in_branch scope vars (other_of (Switch on arms y at))) e
      ∙ ap (λ l. alike (operand scope vars on ∷ flat_map (labels_of scope vars) arms) ++ flat_map (arm_faults scope vars) arms ++ l) (other-held on arms y at)

  pub stmt-Switch : (on : Expr) (arms : List Arm) (at : ℕ)
      → in_stmt scope vars (Switch on arms None at) ≡ alike (operand scope vars on ∷ flat_map (labels_of scope vars) arms) ++ flat_map (arm_faults scope vars) arms ++ []
  stmt-Switch on arms at = switch on arms None at

  pub stmt-Switch_default : (on : Expr) (arms : List Arm) (y : Stmt) (at : ℕ)
      → in_stmt scope vars (Switch on arms (Some y) at) ≡ alike (operand scope vars on ∷ flat_map (labels_of scope vars) arms) ++ flat_map (arm_faults scope vars) arms ++ in_stmt scope vars y
  stmt-Switch_default on arms y at = switch on arms (Some y) at

  pub stmt-Default : (x y : Stmt) (at : ℕ) → in_stmt scope vars (Default x y at) ≡ in_stmt scope vars x ++ in_stmt scope vars y
  unfolding in_stmt computing
  stmt-Default x y at = refl

  pub stmt-For : (var : Word) (from to : ℕ) (closed : Bool) (step : ℕ) (body : Stmt) (at : ℕ) → in_stmt scope vars (For var from to closed step body at) ≡ in_stmt scope ((var.name, number) ∷ vars) body
  unfolding in_stmt computing
  stmt-For var from to closed step body at = refl

  pub stmt-Forall : (var : Word) (over : TypeExpr) (body : Stmt) (at : ℕ) → in_stmt scope vars (Forall var over body at) ≡ index_faults scope.here.types over ++ in_stmt scope (bind scope vars var over) body
  unfolding in_stmt computing
  stmt-Forall var over body at = refl

pub ruleset equations = (stmt-Assign, stmt-Block, stmt-If, stmt-If_else, stmt-Switch, stmt-Switch_default, stmt-Default, stmt-For, stmt-Forall)
