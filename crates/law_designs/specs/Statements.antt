-- Expressions and statements of the flattened text: paths are numbered, a `for` is written out, and a `switch` is one `If` inside another.
use Rattle.std.specs.Prelude.{ℕ, List, [], ◌∷◌, ◌++◌, map, Option, Some, None}
use Rattle.smv_core.specs.Outcome.{fields_of}
use Rattle.smv_core.specs.Walk.{indexes_of, steps_of}
use Rattle.smv_core.specs.Assignments.{Around, loop, any}
use Rattle.smv_core.specs.declared.tree.Part.{Field, At}
use Rattle.smv_core.specs.declared.tree.Path.{out-Path}
use Rattle.smv_core.specs.declared.tree.Member.{One, Span as SpanOf}
use Rattle.smv_core.specs.declared.tree.Expr.{Expr, Number, Signal', Not', And', Or', Implies', Iff', Compare', Within', Sum', Modulo', Choose', All', Any', List', Each', None', Some', Row_of-Expr, end_of-Expr, more_of-Expr, Row_of-Part, end_of-Part, more_of-Part, Row_of-Member, end_of-Member, more_of-Member, Row_of-Signed, end_of-Signed, more_of-Signed, items-the_row-Part}
use Rattle.smv_core.specs.declared.tree.Stmt.{Stmt, Assign, Block', If', Switch', Default', For', Forall', Row_of-Stmt, end_of-Stmt, more_of-Stmt, Row_of-Arm, end_of-Arm, more_of-Arm}
use Rattle.smv_core.specs.declared.tree.Stmt as stmt
use Rattle.smv_core.specs.declared.flat.FlatExpr.{FlatExpr}
use Rattle.smv_core.specs.declared.flat.FlatExpr as flat
use Rattle.smv_core.specs.declared.flat.FlatSigned.{FlatSigned, roll-FlatSigned}
use Rattle.smv_core.specs.declared.flat.FlatMember.{FlatMember}
use Rattle.smv_core.specs.declared.flat.FlatMember as member
use Rattle.smv_core.specs.declared.flat.FlatStmt.{FlatStmt}
use Rattle.smv_core.specs.declared.flat.FlatStmt as act
use Rattle.law_designs.specs.Numbers.{Scope, bound_in, flat_over, family_number, flat_path}
use Rattle.smv_core.specs.Rows.{one_expr, one_stmt, Condition, Otherwise}

-- ---- where an expression begins

-- the first token of an expression, other than `(`
abbrev mutual
  pub first_token : Expr → ℕ
  first_token (Number value at) = at
  first_token (Signal' shape parts at) = at
  first_token (Not' shape e at) = at
  first_token (And' shape parts) = first_token_of parts
  first_token (Or' shape parts) = first_token_of parts
  first_token (Implies' shape parts) = first_token_of parts
  first_token (Iff' l (one_expr left) r right) = first_token left
  first_token (Compare' op l (one_expr left) r right) = first_token left
  first_token (Within' l (one_expr left) r set) = first_token left
  first_token (Sum' f (one_expr first) shape more) = first_token first
  first_token (Modulo' shape (one_expr e) by at) = first_token e
  first_token (Choose' c (one_expr cond) l left r right) = first_token cond
  first_token (All' shape body var over at) = at
  first_token (Any' shape body var over at) = at
  first_token (List' shape members at) = at
  first_token (Each' var over cond at) = at

  pub first_token_of : {m : _} → Row_of-Expr m → ℕ
  first_token_of end_of-Expr = 0
  first_token_of (more_of-Expr e rest) = first_token e

-- the first token of the first label of an arm
abbrev pub first_label : List Expr → ℕ
first_label [] = 0
first_label (label ∷ labels) = first_token label

module _ (scope : Scope) where
  -- ---- expressions

  abbrev mutual
    -- an expression inside these variables
    pub flat_expr : Around → Expr → FlatExpr
    flat_expr vars (Number value at) = flat.Number value at
    flat_expr vars (Signal' shape parts at) = flat_path scope vars (fields_of (items-the_row-Part _ parts)) (flat_indexes vars parts) at
    flat_expr vars (Not' shape (one_expr e) at) = flat.Not (flat_expr vars e) at
    flat_expr vars (And' shape parts) = flat.And (flat_row vars parts)
    flat_expr vars (Or' shape parts) = flat.Or (flat_row vars parts)
    flat_expr vars (Implies' shape parts) = flat.Implies (flat_row vars parts)
    flat_expr vars (Iff' l (one_expr left) r (one_expr right)) = flat.Iff (flat_expr vars left) (flat_expr vars right)
    flat_expr vars (Compare' op l (one_expr left) r (one_expr right)) = flat.Compare op (flat_expr vars left) (flat_expr vars right)
    flat_expr vars (Within' l (one_expr left) r (one_expr set)) = flat.Within (flat_expr vars left) (flat_expr vars set)
    flat_expr vars (Sum' f (one_expr first) shape more) = flat.Sum (flat_expr vars first) (flat_signed vars more)
    flat_expr vars (Modulo' shape (one_expr e) by at) = flat.Modulo (flat_expr vars e) by at
    flat_expr vars (Choose' c (one_expr cond) l (one_expr left) r (one_expr right)) = flat.Choose (flat_expr vars cond) (flat_expr vars left) (flat_expr vars right)
    flat_expr vars (All' shape (one_expr body) var over at) = flat.All (flat_expr ((var.name, any) ∷ vars) body) (bound_in vars) (flat_over scope over) at
    flat_expr vars (Any' shape (one_expr body) var over at) = flat.Any (flat_expr ((var.name, any) ∷ vars) body) (bound_in vars) (flat_over scope over) at
    flat_expr vars (List' shape members at) = flat.List (flat_members vars members) at
    flat_expr vars (Each' var over cond at) = flat.Each (bound_in vars) (flat_over scope over) (flat_condition ((var.name, any) ∷ vars) cond) at

    -- the parts of a chain
    pub flat_row : {m : _} → Around → Row_of-Expr m → List FlatExpr
    flat_row vars end_of-Expr = []
    flat_row vars (more_of-Expr e rest) = flat_expr vars e ∷ flat_row vars rest

    -- the indexes of a path
    pub flat_indexes : {m : _} → Around → Row_of-Part m → List FlatExpr
    flat_indexes vars end_of-Part = []
    flat_indexes vars (more_of-Part (Field word) rest) = flat_indexes vars rest
    flat_indexes vars (more_of-Part (At index) rest) = flat_expr vars index ∷ flat_indexes vars rest

    -- what a sum adds and takes away
    pub flat_signed : {m : _} → Around → Row_of-Signed m → List FlatSigned
    flat_signed vars end_of-Signed = []
    flat_signed vars (more_of-Signed minus e rest) = roll-FlatSigned (record { minus = minus; of = flat_expr vars e }) ∷ flat_signed vars rest

    -- the members of a listed set
    pub flat_members : {m : _} → Around → Row_of-Member m → List FlatMember
    flat_members vars end_of-Member = []
    flat_members vars (more_of-Member (One e) rest) = member.One (flat_expr vars e) ∷ flat_members vars rest
    flat_members vars (more_of-Member (SpanOf span at) rest) = member.Span span at ∷ flat_members vars rest

    -- the condition of a comprehension, or none
    pub flat_condition : Around → Condition → Option FlatExpr
    flat_condition vars None' = None
    flat_condition vars (Some' shape (one_expr cond)) = Some (flat_expr vars cond)

  -- ---- statements

  -- what is missing
  abbrev pub nothing : FlatStmt
  nothing = act.Block []

  abbrev mutual
    -- a statement inside these variables
    pub flat_stmt : Around → Stmt → FlatStmt
    flat_stmt vars (Assign kind left value at) =
        act.Assign kind (family_number scope (scope.instance ++ fields_of (out-Path left).parts)) (map (flat_expr vars) (indexes_of (out-Path left).parts)) (flat_expr vars value) at
    flat_stmt vars (Block' shape parts) = act.Block (flat_parts vars parts)
    flat_stmt vars (If' cond l (one_stmt left) right at) = act.If (flat_expr vars cond) (flat_stmt vars left) (flat_branch vars right)
    flat_stmt vars (Switch' on shape arms other at) = flat_arms vars arms (flat_expr vars on) (flat_branch vars other)
    flat_stmt vars (Default' l (one_stmt left) r (one_stmt right) at) = act.Default (flat_stmt vars left) (flat_stmt vars right)
    flat_stmt vars (For' var from to closed step shape (one_stmt body) at) = act.Block (map (λ n. flat_stmt ((var.name, loop n) ∷ vars) body) (steps_of from to closed step))
    flat_stmt vars (Forall' var over shape (one_stmt body) at) = act.Forall (bound_in vars) (flat_over scope over) (flat_stmt ((var.name, any) ∷ vars) body)

    -- the parts of a block
    pub flat_parts : {m : _} → Around → Row_of-Stmt m → List FlatStmt
    flat_parts vars end_of-Stmt = []
    flat_parts vars (more_of-Stmt part rest) = flat_stmt vars part ∷ flat_parts vars rest

    -- an `else` or a `default`, or none
    pub flat_branch : Around → Otherwise → FlatStmt
    flat_branch vars stmt.None' = nothing
    flat_branch vars (stmt.Some' shape (one_stmt part)) = flat_stmt vars part

    -- each arm of a `switch` is an `If`, which asks whether the value is one of the labels; the next arm is its `else`
    pub flat_arms : {m : _} → Around → Row_of-Arm m → FlatExpr → FlatStmt → FlatStmt
    flat_arms vars end_of-Arm on other = other
    flat_arms vars (more_of-Arm labels body rest) on other =
        act.If (flat.Within on (flat.List (map (λ label. member.One (flat_expr vars label)) labels) (first_label labels))) (flat_stmt vars body) (flat_arms vars rest on other)
