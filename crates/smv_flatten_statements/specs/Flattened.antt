-- The flat form of expressions and statements under names that stay closed, so that laws can speak of each constructor, and of what stands in lists inside them.
use Rattle.std.specs.Prelude.{ℕ, List, [], ◌∷◌, map, Option, Some, None}
use Rattle.smv_core.specs.Walk.{indexes_of}
use Rattle.smv_core.specs.Assignments.{Around, loop}
use Rattle.smv_core.specs.declared.tree.Word.{Word}
use Rattle.smv_core.specs.declared.tree.Expr.{Expr}
use Rattle.smv_core.specs.declared.tree.Stmt.{Stmt}
use Rattle.smv_core.specs.declared.tree.Arm.{Arm, out-Arm}
use Rattle.smv_core.specs.declared.tree.Part.{Part}
use Rattle.smv_core.specs.declared.tree.Signed.{Signed, out-Signed}
use Rattle.smv_core.specs.declared.tree.Member.{Member, One, Span as SpanOf}
use Rattle.smv_core.specs.declared.flat.FlatExpr.{FlatExpr}
use Rattle.smv_core.specs.declared.flat.FlatExpr as flat
use Rattle.smv_core.specs.declared.flat.FlatSigned.{FlatSigned, roll-FlatSigned}
use Rattle.smv_core.specs.declared.flat.FlatMember.{FlatMember}
use Rattle.smv_core.specs.declared.flat.FlatMember as member
use Rattle.smv_core.specs.declared.flat.FlatStmt.{FlatStmt}
use Rattle.smv_core.specs.declared.flat.FlatStmt as act
use Rattle.law_designs.specs.Numbers.{Scope}
use Rattle.law_designs.specs.Statements.{first_token, flat_expr, flat_stmt}

-- where an expression begins
unfoldable pub begins_at : Expr → ℕ
begins_at e = first_token e

-- where the first of some expressions begins
abbrev pub first_begins_at : List Expr → ℕ
first_begins_at [] = 0
first_begins_at (e ∷ es) = begins_at e

-- an expression
unfoldable pub expression_of : Scope → Around → Expr → FlatExpr
expression_of scope vars e = flat_expr scope vars e

-- a statement
unfoldable pub statement_of : Scope → Around → Stmt → FlatStmt
statement_of scope vars act = flat_stmt scope vars act

module _ (scope : Scope) (vars : Around) where
  -- expressions in their order
  abbrev pub expressions_of : List Expr → List FlatExpr
  expressions_of es = map (expression_of scope vars) es

  -- the indexes of a path
  abbrev pub path_indexes : List Part → List FlatExpr
  path_indexes parts = expressions_of (indexes_of parts)

  -- what a sum adds or takes away
  abbrev pub signed_of : Signed → FlatSigned
  signed_of x = roll-FlatSigned (record { minus = (out-Signed x).minus; of = expression_of scope vars (out-Signed x).of })

  -- a member of a listed set
  abbrev pub member_of : Member → FlatMember
  member_of (One e) = member.One (expression_of scope vars e)
  member_of (SpanOf span at) = member.Span span at

  -- a label of an arm as a member of a listed set
  abbrev pub label_of : Expr → FlatMember
  label_of e = member.One (expression_of scope vars e)

  -- an `else` or a `default`, or none
  abbrev pub branch_of : Option Stmt → FlatStmt
  branch_of None = act.Block []
  branch_of (Some other) = statement_of scope vars other

  -- whether a value is one of the labels of an arm
  abbrev pub is_one_of : FlatExpr → List Expr → FlatExpr
  is_one_of on labels = flat.Within on (flat.List (map label_of labels) (first_begins_at labels))

  -- an arm of a `switch` on a value, before what comes after it
  abbrev pub arm_before : FlatExpr → Arm → FlatStmt → FlatStmt
  arm_before on arm rest = act.If (is_one_of on (out-Arm arm).labels) (statement_of scope vars (out-Arm arm).body) rest

  -- the arms of a `switch` on a value, and its `default`
  abbrev pub arms_of : FlatExpr → FlatStmt → List Arm → FlatStmt
  arms_of on other [] = other
  arms_of on other (arm ∷ arms) = arm_before on arm (arms_of on other arms)

  -- the body of a `for` at these numbers
  abbrev pub turns_of : Word → Stmt → List ℕ → List FlatStmt
  turns_of var body turns = map (λ n. statement_of scope ((var.name, loop n) ∷ vars) body) turns
