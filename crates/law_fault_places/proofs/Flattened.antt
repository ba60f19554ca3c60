-- Flattened expressions and statements keep the places of those of the tree.
use Rattle.std.proofs.Common.{◌≤◌, ℕ, List, [], ◌∷◌, ◌++◌, map, Option, Some, None, Bool, true, false, cond, arith}
use Rattle.std.specs.Str.{bytes_eq}
use Rattle.std.specs.List.{AllByRecursion}
use Rattle.smv_core.specs.Values.{Name, Path}
use Rattle.smv_core.specs.Outcome.{fields_of, family_at}
use Rattle.smv_core.specs.Types.{Family}
use Rattle.smv_core.specs.Walk.{indexes_of, steps_of}
use Rattle.smv_core.specs.Assignments.{Around, loop, any}
use Rattle.smv_core.specs.declared.tree.Path.{out-Path}
use Rattle.smv_core.specs.declared.tree.Part.{Part, Field, At}
use Rattle.smv_core.specs.declared.tree.Member.{One as OneOf, Span as SpanIn}
use Rattle.smv_core.specs.declared.tree.Expr.{Expr, Row_of-Expr, end_of-Expr, more_of-Expr, Row_of-Part, end_of-Part, more_of-Part, Row_of-Member, end_of-Member, more_of-Member, Row_of-Signed, end_of-Signed, more_of-Signed, items-the_row-Part}
use Rattle.smv_core.specs.declared.tree.Expr as tree
use Rattle.smv_core.specs.declared.tree.Stmt.{Stmt, Row_of-Stmt, end_of-Stmt, more_of-Stmt, Row_of-Arm, end_of-Arm, more_of-Arm, Held-Stmt-If-2}
use Rattle.smv_core.specs.declared.tree.Stmt as stmt
use Rattle.smv_core.specs.declared.flat.FlatMember.{One}
use Rattle.smv_core.specs.declared.flat.FlatExpr.{FlatExpr, Var, Loop, Within, List as ListOf}
use Rattle.smv_core.specs.declared.flat.FlatStmt.{FlatStmt}
use Rattle.law_designs.specs.Numbers.{Scope, bound_in, variable, variable_at, flat_over, constant_in, or_signal, family_number}
use Rattle.law_designs.specs.Statements.{first_token, first_token_of, flat_expr, flat_row, flat_indexes, flat_signed, flat_members, flat_condition, flat_stmt, flat_parts, flat_branch, flat_arms, first_label}
use Rattle.law_fault_places.specs.TreePlaces.{ExprIsWithin, RowIsWithin, PartsAreWithin, TermsAreWithin, MembersAreWithin, ConditionIsWithin, ExprsAreWithin, PartIsWithin, StatementIsWithin, StatementsAreWithin, BranchIsWithin, ArmsAreWithin}
use Rattle.law_fault_places.specs.FlatPlaces.{FlatExprIsWithin, FlatExprsAreWithin, ActIsWithin}
use Rattle.law_fault_places.proofs.FlatForms.{FlatTermIsWithin, FlatMemberIsWithin, flat-Read, flat-And, flat-Or, flat-Implies, flat-List, flat-Sum, flat-Not, flat-Modulo, flat-Iff, flat-Compare, flat-Within, flat-Choose, flat-All, flat-Any, FlatIsWithinOrNone, flat-Each, flat-term, flat-Block, flat-If, flat-Default, flat-Forall}

module _ (n : ℕ) where
  -- ---- where an expression begins

  mutual
    pub first-within : (e : Expr) → ExprIsWithin n e → first_token e ≤ n
    first-within (tree.Number value at) h = h
    first-within (tree.Signal' shape parts at) h = h.0
    first-within (tree.Not' shape (more_of-Expr e end_of-Expr) at) h = h.0
    first-within (tree.And' shape parts) h = first-row parts h
    first-within (tree.Or' shape parts) h = first-row parts h
    first-within (tree.Implies' shape parts) h = first-row parts h
    first-within (tree.Iff' l (more_of-Expr left end_of-Expr) r (more_of-Expr right end_of-Expr)) h = first-within left h.0
    first-within (tree.Compare' op l (more_of-Expr left end_of-Expr) r (more_of-Expr right end_of-Expr)) h = first-within left h.0
    first-within (tree.Within' l (more_of-Expr left end_of-Expr) r (more_of-Expr set end_of-Expr)) h = first-within left h.0
    first-within (tree.Sum' f (more_of-Expr first end_of-Expr) shape more) h = first-within first h.0
    first-within (tree.Modulo' shape (more_of-Expr e end_of-Expr) by at) h = first-within e h.1
    first-within (tree.Choose' c (more_of-Expr cond end_of-Expr) l (more_of-Expr left end_of-Expr) r (more_of-Expr right end_of-Expr)) h = first-within cond h.0
    first-within (tree.All' shape (more_of-Expr body end_of-Expr) var over at) h = h.0
    first-within (tree.Any' shape (more_of-Expr body end_of-Expr) var over at) h = h.0
    first-within (tree.List' shape members at) h = h.0
    first-within (tree.Each' var over cond at) h = h.0

    first-row : {m : _} (row : Row_of-Expr m) → (RowIsWithin n) row → first_token_of row ≤ n
    first-row end_of-Expr h = omega arith
    first-row (more_of-Expr e rest) h = first-within e h.0

  first-label : (labels : List Expr) → ExprsAreWithin n labels → first_label labels ≤ n
  first-label [] h = omega arith
  first-label (label ∷ labels) h = first-within label h.0

  module _ (scope : Scope) where
    -- ---- expressions

    variable-within : (vars : Around) (name : Name) (at : ℕ) → at ≤ n → FlatIsWithinOrNone n (variable vars name at)
    variable-within [] name at a = tt
    variable-within ((other, loop k) ∷ vars) name at a = by_test (bytes_eq other name) (variable vars name at) (variable-within vars name at a)
      where
        by_test : (b : Bool) (o : Option FlatExpr) → FlatIsWithinOrNone n o → FlatIsWithinOrNone n (cond b (Some (Loop k at)) o)
        by_test true o h = a
        by_test false o h = h
    variable-within ((other, any) ∷ vars) name at a = by_test (bytes_eq other name) (variable vars name at) (variable-within vars name at a)
      where
        by_test : (b : Bool) (o : Option FlatExpr) → FlatIsWithinOrNone n o → FlatIsWithinOrNone n (cond b (Some (Var (bound_in vars) at)) o)
        by_test true o h = a
        by_test false o h = h

    at-within : (vars : Around) (path : Path) (at : ℕ) → at ≤ n → FlatIsWithinOrNone n (variable_at vars path at)
    at-within vars [] at a = tt
    at-within vars (name ∷ []) at a = variable-within vars name at a
    at-within vars (name ∷ other ∷ more) at a = tt

    constant-within : (path : Path) (at : ℕ) → at ≤ n → FlatExprIsWithin n (constant_in scope path at)
    constant-within [] at a = a
    constant-within (name ∷ []) at a = a
    constant-within (name ∷ other ∷ more) at a = a

    signal-within : (o : Option FlatExpr) (f : Option Family) (path : Path) (es : List FlatExpr) (at : ℕ) → at ≤ n → FlatIsWithinOrNone n o → FlatExprsAreWithin n es → FlatExprIsWithin n (or_signal scope o f path es at)
    signal-within (Some e) f path es at a h g = h
    signal-within None (Some f) path es at a h g = flat-Read n (family_number scope (scope.instance ++ path)) es at a g
    signal-within None None path es at a h g = constant-within path at a

    mutual
      pub expr-within : (vars : Around) (e : Expr) → ExprIsWithin n e → FlatExprIsWithin n (flat_expr scope vars e)
      expr-within vars (tree.Number value at) h = h
      expr-within vars (tree.Signal' shape parts at) h =
          signal-within (variable_at vars (fields_of (items-the_row-Part _ parts)) at) (family_at scope.families (scope.instance ++ fields_of (items-the_row-Part _ parts))) (fields_of (items-the_row-Part _ parts)) (flat_indexes scope vars parts) at h.0
          (at-within vars (fields_of (items-the_row-Part _ parts)) at h.0) (indexes-within vars parts h.1)
      expr-within vars (tree.Not' shape (more_of-Expr e end_of-Expr) at) h = flat-Not n (flat_expr scope vars e) at h.0 (expr-within vars e h.1)
      expr-within vars (tree.And' shape parts) h = flat-And n (flat_row scope vars parts) (row-within vars parts h)
      expr-within vars (tree.Or' shape parts) h = flat-Or n (flat_row scope vars parts) (row-within vars parts h)
      expr-within vars (tree.Implies' shape parts) h = flat-Implies n (flat_row scope vars parts) (row-within vars parts h)
      expr-within vars (tree.Iff' l (more_of-Expr left end_of-Expr) r (more_of-Expr right end_of-Expr)) h =
          flat-Iff n (flat_expr scope vars left) (flat_expr scope vars right) (expr-within vars left h.0) (expr-within vars right h.1)
      expr-within vars (tree.Compare' op l (more_of-Expr left end_of-Expr) r (more_of-Expr right end_of-Expr)) h =
          flat-Compare n op (flat_expr scope vars left) (flat_expr scope vars right) (expr-within vars left h.0) (expr-within vars right h.1)
      expr-within vars (tree.Within' l (more_of-Expr left end_of-Expr) r (more_of-Expr set end_of-Expr)) h =
          flat-Within n (flat_expr scope vars left) (flat_expr scope vars set) (expr-within vars left h.0) (expr-within vars set h.1)
      expr-within vars (tree.Sum' f (more_of-Expr first end_of-Expr) shape more) h =
          flat-Sum n (flat_expr scope vars first) (flat_signed scope vars more) (expr-within vars first h.0) (signed-within vars more h.1)
      expr-within vars (tree.Modulo' shape (more_of-Expr e end_of-Expr) by at) h = flat-Modulo n (flat_expr scope vars e) by at h.0 (expr-within vars e h.1)
      expr-within vars (tree.Choose' c (more_of-Expr cond end_of-Expr) l (more_of-Expr left end_of-Expr) r (more_of-Expr right end_of-Expr)) h =
          flat-Choose n (flat_expr scope vars cond) (flat_expr scope vars left) (flat_expr scope vars right) (expr-within vars cond h.0) (expr-within vars left h.1) (expr-within vars right h.2)
      expr-within vars (tree.All' shape (more_of-Expr body end_of-Expr) var over at) h =
          flat-All n (flat_expr scope ((var.name, any) ∷ vars) body) (bound_in vars) (flat_over scope over) at h.0 (expr-within ((var.name, any) ∷ vars) body h.3)
      expr-within vars (tree.Any' shape (more_of-Expr body end_of-Expr) var over at) h =
          flat-Any n (flat_expr scope ((var.name, any) ∷ vars) body) (bound_in vars) (flat_over scope over) at h.0 (expr-within ((var.name, any) ∷ vars) body h.3)
      expr-within vars (tree.List' shape members at) h = flat-List n (flat_members scope vars members) at h.0 (members-within vars members h.1)
      expr-within vars (tree.Each' var over cond at) h =
          flat-Each n (bound_in vars) (flat_over scope over) (flat_condition scope ((var.name, any) ∷ vars) cond) at h.0 (condition-within ((var.name, any) ∷ vars) cond h.3)

      row-within : {m : _} (vars : Around) (row : Row_of-Expr m) → RowIsWithin n row → FlatExprsAreWithin n (flat_row scope vars row)
      row-within vars end_of-Expr h = tt
      row-within vars (more_of-Expr e rest) h = (expr-within vars e h.0, row-within vars rest h.1)

      indexes-within : {m : _} (vars : Around) (row : Row_of-Part m) → PartsAreWithin n row → FlatExprsAreWithin n (flat_indexes scope vars row)
      indexes-within vars end_of-Part h = tt
      indexes-within vars (more_of-Part (Field word) rest) h = indexes-within vars rest h.1
      indexes-within vars (more_of-Part (At index) rest) h = (expr-within vars index h.0, indexes-within vars rest h.1)

      signed-within : {m : _} (vars : Around) (row : Row_of-Signed m) → TermsAreWithin n row → AllByRecursion (FlatTermIsWithin n) (flat_signed scope vars row)
      signed-within vars end_of-Signed h = tt
      signed-within vars (more_of-Signed minus e rest) h = (flat-term n minus (flat_expr scope vars e) (expr-within vars e h.0), signed-within vars rest h.1)

      members-within : {m : _} (vars : Around) (row : Row_of-Member m) → MembersAreWithin n row → AllByRecursion (FlatMemberIsWithin n) (flat_members scope vars row)
      members-within vars end_of-Member h = tt
      members-within vars (more_of-Member (OneOf e) rest) h = (expr-within vars e h.0, members-within vars rest h.1)
      members-within vars (more_of-Member (SpanIn span at) rest) h = (h.0, members-within vars rest h.1)

      condition-within : (vars : Around) (cond : tree.Held-Expr-Each-2) → ConditionIsWithin n cond → FlatIsWithinOrNone n (flat_condition scope vars cond)
      condition-within vars tree.None' h = tt
      condition-within vars (tree.Some' shape (more_of-Expr cond end_of-Expr)) h = expr-within vars cond h

    parts-indexes : (vars : Around) (parts : List Part) → AllByRecursion (PartIsWithin n) parts → FlatExprsAreWithin n (map (flat_expr scope vars) (indexes_of parts))
    parts-indexes vars [] h = tt
    parts-indexes vars (Field word ∷ parts) h = parts-indexes vars parts h.1
    parts-indexes vars (At index ∷ parts) h = (expr-within vars index h.0, parts-indexes vars parts h.1)

    labels-within : (vars : Around) (es : List Expr) → ExprsAreWithin n es → AllByRecursion (FlatMemberIsWithin n) (map (λ label. One (flat_expr scope vars label)) es)
    labels-within vars [] h = tt
    labels-within vars (e ∷ es) h = (expr-within vars e h.0, labels-within vars es h.1)

    -- ---- statements

    turns-within : (act : ℕ → FlatStmt) → ((k : ℕ) → ActIsWithin n (act k)) → (ks : List ℕ) → AllByRecursion (ActIsWithin n) (map act ks)
    turns-within act h [] = tt
    turns-within act h (k ∷ ks) = (h k, turns-within act h ks)

    mutual
      pub act-within : (vars : Around) (act : Stmt) → StatementIsWithin n act → ActIsWithin n (flat_stmt scope vars act)
      act-within vars (stmt.Assign kind left value at) h = (h.0, parts-indexes vars (out-Path left).parts h.1.1, expr-within vars value h.2)
      act-within vars (stmt.Block' shape parts) h = flat-Block n (flat_parts scope vars parts) (parts-within vars parts h)
      act-within vars (stmt.If' cond l (more_of-Stmt left end_of-Stmt) right at) h =
          flat-If n (flat_expr scope vars cond) (flat_stmt scope vars left) (flat_branch scope vars right) (expr-within vars cond h.1) (act-within vars left h.2) (branch-within vars right h.3)
      act-within vars (stmt.Switch' on shape arms other at) h =
          arms-within vars arms (flat_expr scope vars on) (flat_branch scope vars other) h.2 (expr-within vars on h.1) (branch-within vars other h.3)
      act-within vars (stmt.Default' l (more_of-Stmt left end_of-Stmt) r (more_of-Stmt right end_of-Stmt) at) h =
          flat-Default n (flat_stmt scope vars left) (flat_stmt scope vars right) (act-within vars left h.1) (act-within vars right h.2)
      act-within vars (stmt.For' var from to closed step shape (more_of-Stmt body end_of-Stmt) at) h =
          flat-Block n (map (λ k. flat_stmt scope ((var.name, loop k) ∷ vars) body) (steps_of from to closed step))
          (turns-within (λ k. flat_stmt scope ((var.name, loop k) ∷ vars) body) (λ k. act-within ((var.name, loop k) ∷ vars) body h.2) (steps_of from to closed step))
      act-within vars (stmt.Forall' var over shape (more_of-Stmt body end_of-Stmt) at) h =
          flat-Forall n (bound_in vars) (flat_over scope over) (flat_stmt scope ((var.name, any) ∷ vars) body) (act-within ((var.name, any) ∷ vars) body h.3)

      parts-within : {m : _} (vars : Around) (row : Row_of-Stmt m) → StatementsAreWithin n row → AllByRecursion (ActIsWithin n) (flat_parts scope vars row)
      parts-within vars end_of-Stmt h = tt
      parts-within vars (more_of-Stmt part rest) h = (act-within vars part h.0, parts-within vars rest h.1)

      branch-within : (vars : Around) (o : Held-Stmt-If-2) → BranchIsWithin n o → ActIsWithin n (flat_branch scope vars o)
      branch-within vars stmt.None' h = flat-Block n [] tt
      branch-within vars (stmt.Some' shape (more_of-Stmt part end_of-Stmt)) h = act-within vars part h

      arms-within : {m : _} (vars : Around) (row : Row_of-Arm m) (on : FlatExpr) (other : FlatStmt) → ArmsAreWithin n row → FlatExprIsWithin n on → ActIsWithin n other → ActIsWithin n (flat_arms scope vars row on other)
      arms-within vars end_of-Arm on other h g o = o
      arms-within vars (more_of-Arm labels body rest) on other h g o =
          flat-If n (Within on (ListOf (map (λ label. One (flat_expr scope vars label)) labels) (first_label labels))) (flat_stmt scope vars body) (flat_arms scope vars rest on other)
          (flat-Within n on (ListOf (map (λ label. One (flat_expr scope vars label)) labels) (first_label labels)) g
          (flat-List n (map (λ label. One (flat_expr scope vars label)) labels) (first_label labels) (first-label labels h.0) (labels-within vars labels h.0)))
          (act-within vars body h.1) (arms-within vars rest on other h.2 g o)
