-- The flat form of statements that are made of lists and values.
use Rattle.std.proofs.Common.{◌≡◌, ℕ, Bool, List, [], ◌∷◌, ◌++◌, map, Option, Some, None, refl, ap, sym, ◌∙◌}
use Rattle.smv_core.specs.Outcome.{fields_of}
use Rattle.smv_core.specs.Walk.{steps_of}
use Rattle.smv_core.specs.Assignments.{Around, any}
use Rattle.smv_core.specs.declared.tree.Word.{Word}
use Rattle.smv_core.specs.declared.tree.TypeExpr.{TypeExpr}
use Rattle.smv_core.specs.declared.tree.Kind.{Kind}
use Rattle.smv_core.specs.declared.tree.Path.{Path, out-Path}
use Rattle.smv_core.specs.declared.tree.Expr.{Expr}
use Rattle.smv_core.specs.declared.tree.Arm.{Arm}
use Rattle.smv_core.specs.declared.tree.Stmt.{Stmt, Assign, Block, Block', If, Switch, Switch', Default, For, Forall, Held-Stmt-If-2, None', Row_of-Stmt, end_of-Stmt, more_of-Stmt, Row_of-Arm, end_of-Arm, more_of-Arm}
use Rattle.smv_core.specs.declared.tree.Stmt.{items-the_row-Stmt, items-the_row-Arm, items_hidden-the_row-Stmt-0, items_hidden-the_row-Arm-2}
use Rattle.smv_core.specs.declared.flat.FlatExpr.{FlatExpr}
use Rattle.smv_core.specs.declared.flat.FlatExpr as flat
use Rattle.smv_core.specs.declared.flat.FlatStmt.{FlatStmt}
use Rattle.smv_core.specs.declared.flat.FlatStmt as act
use mathlib.Core.Former.{Count}
use Rattle.smv_mentions.proofs.Computing.{computing}
use Rattle.law_designs.specs.Numbers.{Scope, bound_in, flat_over, family_number}
use Rattle.law_designs.specs.Statements.{first_label, flat_parts, flat_branch, flat_arms}
use Rattle.smv_flatten_statements.specs.Flattened.{begins_at, first_begins_at, expression_of, path_indexes, label_of, is_one_of, statement_of, branch_of, arms_of, turns_of}

labels-first : (labels : List Expr) → first_label labels ≡ first_begins_at labels
unfolding begins_at
labels-first [] = refl
labels-first (label ∷ labels) = refl

module _ (scope : Scope) (vars : Around) where
  parts-row : (n : _) (row : Row_of-Stmt n) → flat_parts scope vars row ≡ map (statement_of scope vars) (items-the_row-Stmt n row)
  unfolding statement_of
  parts-row n end_of-Stmt = refl
  parts-row n (more_of-Stmt part rest) = ap (λ l. statement_of scope vars part ∷ l) (parts-row _ rest)

  arms-row : (n : _) (row : Row_of-Arm n) (on : FlatExpr) (other : FlatStmt) → flat_arms scope vars row on other ≡ arms_of scope vars on other (items-the_row-Arm n row)
  unfolding statement_of expression_of begins_at computing
  arms-row n end_of-Arm on other = refl
  arms-row n (more_of-Arm labels body rest) on other =
      ap (λ at. act.If (flat.Within on (flat.List (map (label_of scope vars) labels) at)) (statement_of scope vars body) (flat_arms scope vars rest on other)) (labels-first labels)
      ∙ ap (λ l. act.If (is_one_of scope vars on labels) (statement_of scope vars body) l) (arms-row _ rest on other)

  abbrev stmts_of : Stmt → (n : Count) × Row_of-Stmt n
  stmts_of (Block' shape row) = (_, row)
  stmts_of _ = (_, end_of-Stmt)

  abbrev rows_of : Stmt → (n : Count) × Row_of-Arm n
  rows_of (Switch' on shape row other at) = (_, row)
  rows_of _ = (_, end_of-Arm)

  abbrev other_of : Stmt → Held-Stmt-If-2
  other_of (Switch' on shape row other at) = other
  other_of _ = None'

  other-held : (on : Expr) (arms : List Arm) (other : Option Stmt) (at : ℕ) → flat_branch scope vars (other_of (Switch on arms other at)) ≡ branch_of scope vars other
  unfolding statement_of computing
  other-held on arms None at = refl
  other-held on arms (Some other) at = refl

  pub stmt-Assign : (kind : Kind) (left : Path) (value : Expr) (at : ℕ) →
      statement_of scope vars (Assign kind left value at) ≡ act.Assign kind (family_number scope (scope.instance ++ fields_of (out-Path left).parts)) (path_indexes scope vars (out-Path left).parts) (expression_of scope vars value) at
  unfolding statement_of expression_of
  stmt-Assign kind left value at = refl

  pub stmt-Block : (parts : List Stmt) → statement_of scope vars (Block parts) ≡ act.Block (map (statement_of scope vars) parts)
  unfolding statement_of
  stmt-Block parts = ap act.Block (parts-row (stmts_of (Block parts)).0 (stmts_of (Block parts)).1 ∙ ap (map (statement_of scope vars)) (items_hidden-the_row-Stmt-0 parts))

  pub stmt-If : (cond : Expr) (body : Stmt) (other : Option Stmt) (at : ℕ) → statement_of scope vars (If cond body other at) ≡ act.If (expression_of scope vars cond) (statement_of scope vars body) (branch_of scope vars other)
  unfolding statement_of expression_of computing
  stmt-If cond body None at = refl
  stmt-If cond body (Some other) at = refl

  pub stmt-Switch : (on : Expr) (arms : List Arm) (other : Option Stmt) (at : ℕ) → statement_of scope vars (Switch on arms other at) ≡ arms_of scope vars (expression_of scope vars on) (branch_of scope vars other) arms
  unfolding statement_of expression_of
  stmt-Switch on arms other at =
      let row : (n : Count) × Row_of-Arm n = rows_of (Switch on arms other at) in
      arms-row row.0 row.1 (expression_of scope vars on) (flat_branch scope vars (other_of (Switch on arms other at)))
      ∙ ap (arms_of scope vars (expression_of scope vars on) (flat_branch scope vars (other_of (Switch on arms other at)))) (items_hidden-the_row-Arm-2 arms)
      ∙ ap (λ o. arms_of scope vars (expression_of scope vars on) o arms) (other-held on arms other at)

  pub stmt-Default : (x y : Stmt) (at : ℕ) → statement_of scope vars (Default x y at) ≡ act.Default (statement_of scope vars x) (statement_of scope vars y)
  unfolding statement_of computing
  stmt-Default x y at = refl

  pub stmt-For : (var : Word) (from to : ℕ) (closed : Bool) (step : ℕ) (body : Stmt) (at : ℕ) →
      statement_of scope vars (For var from to closed step body at) ≡ act.Block (turns_of scope vars var body (steps_of from to closed step))
  unfolding statement_of computing
  stmt-For var from to closed step body at = refl

  pub stmt-Forall : (var : Word) (over : TypeExpr) (body : Stmt) (at : ℕ) →
      statement_of scope vars (Forall var over body at) ≡ act.Forall (bound_in vars) (flat_over scope over) (statement_of scope ((var.name, any) ∷ vars) body)
  unfolding statement_of computing
  stmt-Forall var over body at = refl

  -- an `if`, by its parts
  pub if-made : (x : Stmt) (cond : Expr) (body : Stmt) (other : Option Stmt) (at : ℕ) (c : FlatExpr) (y n : FlatStmt) → x ≡ If cond body other at → c ≡ expression_of scope vars cond → y ≡ statement_of scope vars body
      → n ≡ branch_of scope vars other → act.If c y n ≡ statement_of scope vars x
  if-made x cond body other at c y n is e f g =
      ap (λ z. act.If z y n) e ∙ ap (λ z. act.If (expression_of scope vars cond) z n) f ∙ ap (λ z. act.If (expression_of scope vars cond) (statement_of scope vars body) z) g
      ∙ sym (stmt-If cond body other at) ∙ sym (ap (statement_of scope vars) is)

  -- a `switch`, by its parts
  pub switch-made : (x : Stmt) (on : Expr) (arms held : List Arm) (other : Option Stmt) (at : ℕ) (flat : FlatStmt) → x ≡ Switch on arms other at → held ≡ arms → flat ≡ branch_of scope vars other
      → arms_of scope vars (expression_of scope vars on) flat held ≡ statement_of scope vars x
  switch-made x on arms held other at flat is e f =
      ap (arms_of scope vars (expression_of scope vars on) flat) e ∙ ap (λ z. arms_of scope vars (expression_of scope vars on) z arms) f
      ∙ sym (stmt-Switch on arms other at) ∙ sym (ap (statement_of scope vars) is)

pub ruleset equations = (stmt-Assign, stmt-Block, stmt-If, stmt-Switch, stmt-Default, stmt-For, stmt-Forall)
