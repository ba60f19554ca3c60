-- Rows of one part, and parts that may be missing, by a name.
use Rattle.smv_core.specs.declared.flat.FlatExpr.{FlatExpr, Held-FlatExpr-Each-2, Row_of-FlatExpr, end_of-FlatExpr, more_of-FlatExpr}
use Rattle.smv_core.specs.declared.flat.FlatStmt.{FlatStmt, Row_of-FlatStmt, end_of-FlatStmt, more_of-FlatStmt}
use Rattle.smv_core.specs.declared.tree.Expr.{Expr, Held-Expr-Each-2, Row_of-Expr, end_of-Expr, more_of-Expr}
use Rattle.smv_core.specs.declared.tree.Stmt.{Stmt, Held-Stmt-If-2, Row_of-Stmt, end_of-Stmt, more_of-Stmt}
use Rattle.smv_core.specs.declared.tree.TypeExpr.{TypeExpr, Row_of-TypeExpr, end_of-TypeExpr, more_of-TypeExpr}

-- the row of one FlatExpr
pattern abbrev pub one_flat_expr : FlatExpr → Row_of-FlatExpr 1
one_flat_expr x = more_of-FlatExpr x end_of-FlatExpr

-- the row of one FlatStmt
pattern abbrev pub one_flat_stmt : FlatStmt → Row_of-FlatStmt 1
one_flat_stmt x = more_of-FlatStmt x end_of-FlatStmt

-- the row of one Expr
pattern abbrev pub one_expr : Expr → Row_of-Expr 1
one_expr x = more_of-Expr x end_of-Expr

-- the row of one Stmt
pattern abbrev pub one_stmt : Stmt → Row_of-Stmt 1
one_stmt x = more_of-Stmt x end_of-Stmt

-- the row of one TypeExpr
pattern abbrev pub one_type : TypeExpr → Row_of-TypeExpr 1
one_type x = more_of-TypeExpr x end_of-TypeExpr

-- the condition of a member of a set, where it has one
abbrev pub Condition : Type 0
Condition = Held-Expr-Each-2

-- the same of the flattened text
abbrev pub FlatCondition : Type 0
FlatCondition = Held-FlatExpr-Each-2

-- what an `if` or a `switch` does otherwise, where it says so
abbrev pub Otherwise : Type 0
Otherwise = Held-Stmt-If-2
