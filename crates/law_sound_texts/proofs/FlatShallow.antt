-- Flattened expressions and statements whose binders are not too deep: those that are made of shallow trees.
use Rattle.std.proofs.Common.{◌<◌, ℕ, suc, List, [], ◌∷◌, ◌++◌, map, Option, Some, None, Bool, true, false, cond, sym, subst}
use Rattle.std.specs.Str.{bytes_eq}
use Rattle.std.specs.List.{AllByRecursion}
use Rattle.smv_core.specs.Values.{Name, Path}
use Rattle.smv_core.specs.Outcome.{fields_of, family_at}
use Rattle.smv_core.specs.Types.{Family}
use Rattle.smv_core.specs.Walk.{indexes_of, steps_of}
use Rattle.smv_core.specs.Assignments.{Around, loop, any}
use Rattle.smv_core.specs.declared.tree.Op.{Op}
use Rattle.smv_core.specs.declared.tree.Path.{out-Path}
use Rattle.smv_core.specs.declared.tree.Part.{Field, At}
use Rattle.smv_core.specs.declared.tree.Member.{One as OneOf, Span as SpanIn}
use Rattle.smv_core.specs.declared.tree.Expr.{Expr, Row_of-Expr, end_of-Expr, more_of-Expr, Row_of-Part, end_of-Part, more_of-Part, Row_of-Member, end_of-Member, more_of-Member, Row_of-Signed, end_of-Signed, more_of-Signed, items-the_row-Part}
use Rattle.smv_core.specs.declared.tree.Expr as tree
use Rattle.smv_core.specs.declared.tree.Stmt.{Stmt, Row_of-Stmt, end_of-Stmt, more_of-Stmt, Row_of-Arm, end_of-Arm, more_of-Arm, Held-Stmt-If-2}
use Rattle.smv_core.specs.declared.tree.Stmt as stmt
use Rattle.smv_core.specs.declared.flat.Simple.{Simple}
use Rattle.smv_core.specs.declared.flat.FlatSigned.{FlatSigned, roll-FlatSigned, out-FlatSigned}
use Rattle.smv_core.specs.declared.flat.FlatMember.{FlatMember, One, Span as SpanOf}
use Rattle.smv_core.specs.declared.flat.FlatExpr.{FlatExpr, Number, Var, Loop, Constant, Not, Iff, Compare, Within, Modulo, Choose, All, Any, Each, Read, And, Or, Implies, Sum, List as ListOf, Read', Not', And', Or', Implies', Iff', Compare', Within', Sum', Modulo', Choose', All', Any', List', Each', Held-FlatExpr-Each-2, None', Some', Row_of-FlatExpr, end_of-FlatExpr, more_of-FlatExpr, Row_of-FlatMember, end_of-FlatMember, more_of-FlatMember, Row_of-FlatSigned, end_of-FlatSigned, more_of-FlatSigned, items-the_row-FlatExpr, items-the_row-FlatMember, items-the_row-FlatSigned, items_hidden-the_row-FlatExpr-0, items_hidden-the_row-FlatSigned-2, items_hidden-the_row-FlatMember-3}
use Rattle.smv_core.specs.declared.flat.FlatStmt.{FlatStmt, Assign, If, Default, Forall, Block, If', Block', Default', Forall', Row_of-FlatStmt, end_of-FlatStmt, more_of-FlatStmt, items-the_row-FlatStmt, items_hidden-the_row-FlatStmt-1}
use Rattle.law_designs.specs.Numbers.{Scope, bound_in, variable, variable_at, flat_over, constant_in, or_signal, family_number}
use Rattle.law_designs.specs.Statements.{flat_expr, flat_row, flat_indexes, flat_signed, flat_members, flat_condition, flat_stmt, flat_parts, flat_branch, flat_arms, first_label}
use Rattle.law_designs.proofs.FlatLists.{boxes}
use Rattle.law_sound_texts.proofs.Shallow.{most, IsShallow, AreShallow, PartsAreShallow, IndexesAreShallow, TermsAreShallow, MembersAreShallow, ConditionIsShallow, StatementIsShallow, StatementsAreShallow, BranchIsShallow, ArmsAreShallow}
use mathlib.Core.Former.{Count}

-- ---- flattened expressions and statements

abbrev mutual
  -- with so many variables bound around, each binder in the expression has fewer than 65,536 around it
  pub FlatIsShallow : ℕ → FlatExpr → Type 0
  FlatIsShallow k (Number value at) = Unit {0}
  FlatIsShallow k (Read' family shape indexes at) = RowIsShallow k indexes
  FlatIsShallow k (Var var at) = Unit {0}
  FlatIsShallow k (Loop value at) = Unit {0}
  FlatIsShallow k (Constant list value at) = Unit {0}
  FlatIsShallow k (Not' shape (more_of-FlatExpr e end_of-FlatExpr) at) = FlatIsShallow k e
  FlatIsShallow k (And' shape parts) = RowIsShallow k parts
  FlatIsShallow k (Or' shape parts) = RowIsShallow k parts
  FlatIsShallow k (Implies' shape parts) = RowIsShallow k parts
  FlatIsShallow k (Iff' l (more_of-FlatExpr left end_of-FlatExpr) r (more_of-FlatExpr right end_of-FlatExpr)) = FlatIsShallow k left × FlatIsShallow k right
  FlatIsShallow k (Compare' op l (more_of-FlatExpr left end_of-FlatExpr) r (more_of-FlatExpr right end_of-FlatExpr)) = FlatIsShallow k left × FlatIsShallow k right
  FlatIsShallow k (Within' l (more_of-FlatExpr left end_of-FlatExpr) r (more_of-FlatExpr set end_of-FlatExpr)) = FlatIsShallow k left × FlatIsShallow k set
  FlatIsShallow k (Sum' f (more_of-FlatExpr head end_of-FlatExpr) shape more) = FlatIsShallow k head × SignedAreShallow k more
  FlatIsShallow k (Modulo' shape (more_of-FlatExpr e end_of-FlatExpr) by at) = FlatIsShallow k e
  FlatIsShallow k (Choose' c (more_of-FlatExpr cond end_of-FlatExpr) l (more_of-FlatExpr left end_of-FlatExpr) r (more_of-FlatExpr right end_of-FlatExpr)) = FlatIsShallow k cond × FlatIsShallow k left × FlatIsShallow k right
  FlatIsShallow k (All' shape (more_of-FlatExpr body end_of-FlatExpr) var over at) = (k < most) × FlatIsShallow (suc k) body
  FlatIsShallow k (Any' shape (more_of-FlatExpr body end_of-FlatExpr) var over at) = (k < most) × FlatIsShallow (suc k) body
  FlatIsShallow k (List' shape members at) = ListedAreShallow k members
  FlatIsShallow k (Each' var over cond at) = (k < most) × HeldIsShallow (suc k) cond

  pub RowIsShallow : {m : _} → ℕ → Row_of-FlatExpr m → Type 0
  RowIsShallow k end_of-FlatExpr = Unit {0}
  RowIsShallow k (more_of-FlatExpr e rest) = FlatIsShallow k e × RowIsShallow k rest

  pub SignedAreShallow : {m : _} → ℕ → Row_of-FlatSigned m → Type 0
  SignedAreShallow k end_of-FlatSigned = Unit {0}
  SignedAreShallow k (more_of-FlatSigned minus e rest) = FlatIsShallow k e × SignedAreShallow k rest

  pub ListedAreShallow : {m : _} → ℕ → Row_of-FlatMember m → Type 0
  ListedAreShallow k end_of-FlatMember = Unit {0}
  ListedAreShallow k (more_of-FlatMember (One e) rest) = FlatIsShallow k e × ListedAreShallow k rest
  ListedAreShallow k (more_of-FlatMember (SpanOf span at) rest) = ListedAreShallow k rest

  pub HeldIsShallow : ℕ → Held-FlatExpr-Each-2 → Type 0
  HeldIsShallow k None' = Unit {0}
  HeldIsShallow k (Some' shape (more_of-FlatExpr cond end_of-FlatExpr)) = FlatIsShallow k cond

abbrev mutual
  pub ActIsShallow : ℕ → FlatStmt → Type 0
  ActIsShallow k (Assign kind family left value at) = AllByRecursion (FlatIsShallow k) left × FlatIsShallow k value
  ActIsShallow k (If' cond l (more_of-FlatStmt left end_of-FlatStmt) r (more_of-FlatStmt right end_of-FlatStmt)) = FlatIsShallow k cond × ActIsShallow k left × ActIsShallow k right
  ActIsShallow k (Block' shape parts) = ActsAreShallow k parts
  ActIsShallow k (Default' l (more_of-FlatStmt left end_of-FlatStmt) r (more_of-FlatStmt right end_of-FlatStmt)) = ActIsShallow k left × ActIsShallow k right
  ActIsShallow k (Forall' var over shape (more_of-FlatStmt body end_of-FlatStmt)) = (k < most) × ActIsShallow (suc k) body

  pub ActsAreShallow : {m : _} → ℕ → Row_of-FlatStmt m → Type 0
  ActsAreShallow k end_of-FlatStmt = Unit {0}
  ActsAreShallow k (more_of-FlatStmt part rest) = ActIsShallow k part × ActsAreShallow k rest

-- ---- what is made of shallow parts

abbrev exprs_of : FlatExpr → (n : Count) × Row_of-FlatExpr n
exprs_of (Read' family shape row at) = (_, row)
exprs_of (And' shape row) = (_, row)
exprs_of (Or' shape row) = (_, row)
exprs_of (Implies' shape row) = (_, row)
exprs_of _ = (_, end_of-FlatExpr)

abbrev members_of : FlatExpr → (n : Count) × Row_of-FlatMember n
members_of (List' shape row at) = (_, row)
members_of _ = (_, end_of-FlatMember)

abbrev signed_of : FlatExpr → (n : Count) × Row_of-FlatSigned n
signed_of (Sum' f head shape row) = (_, row)
signed_of _ = (_, end_of-FlatSigned)

abbrev acts_of : FlatStmt → (n : Count) × Row_of-FlatStmt n
acts_of (Block' shape row) = (_, row)
acts_of _ = (_, end_of-FlatStmt)

module _ (k : ℕ) where
  abbrev AllShallow : List FlatExpr → Type 0
  AllShallow es = AllByRecursion (FlatIsShallow k) es

  abbrev TermIsShallow : FlatSigned → Type 0
  TermIsShallow x = FlatIsShallow k (out-FlatSigned x).of

  abbrev MemberIsShallow : FlatMember → Type 0
  MemberIsShallow (One e) = FlatIsShallow k e
  MemberIsShallow (SpanOf span at) = Unit {0}

  exprs-row : (n : _) (row : Row_of-FlatExpr n) → AllShallow (items-the_row-FlatExpr n row) → RowIsShallow k row
  exprs-row n end_of-FlatExpr h = tt
  exprs-row n (more_of-FlatExpr e rest) h = (h.0, exprs-row _ rest h.1)

  signed-row : (n : _) (row : Row_of-FlatSigned n) → AllByRecursion TermIsShallow (items-the_row-FlatSigned n row) → SignedAreShallow k row
  signed-row n end_of-FlatSigned h = tt
  signed-row n (more_of-FlatSigned minus e rest) h = (h.0, signed-row _ rest h.1)

  members-row : (n : _) (row : Row_of-FlatMember n) → AllByRecursion MemberIsShallow (items-the_row-FlatMember n row) → ListedAreShallow k row
  members-row n end_of-FlatMember h = tt
  members-row n (more_of-FlatMember (One e) rest) h = (h.0, members-row _ rest h.1)
  members-row n (more_of-FlatMember (SpanOf span at) rest) h = members-row _ rest h.1

  acts-row : (n : _) (row : Row_of-FlatStmt n) → AllByRecursion (ActIsShallow k) (items-the_row-FlatStmt n row) → ActsAreShallow k row
  acts-row n end_of-FlatStmt h = tt
  acts-row n (more_of-FlatStmt part rest) h = (h.0, acts-row _ rest h.1)

  flat-Read : (family : ℕ) (es : List FlatExpr) (at : ℕ) → AllShallow es → FlatIsShallow k (Read family es at)
  flat-Read family es at h = exprs-row (exprs_of (Read family es at)).0 (exprs_of (Read family es at)).1 (subst AllShallow (sym (items_hidden-the_row-FlatExpr-0 es)) h)

  flat-And : (es : List FlatExpr) → AllShallow es → FlatIsShallow k (And es)
  flat-And es h = exprs-row (exprs_of (And es)).0 (exprs_of (And es)).1 (subst AllShallow (sym (items_hidden-the_row-FlatExpr-0 es)) h)

  flat-Or : (es : List FlatExpr) → AllShallow es → FlatIsShallow k (Or es)
  flat-Or es h = exprs-row (exprs_of (Or es)).0 (exprs_of (Or es)).1 (subst AllShallow (sym (items_hidden-the_row-FlatExpr-0 es)) h)

  flat-Implies : (es : List FlatExpr) → AllShallow es → FlatIsShallow k (Implies es)
  flat-Implies es h = exprs-row (exprs_of (Implies es)).0 (exprs_of (Implies es)).1 (subst AllShallow (sym (items_hidden-the_row-FlatExpr-0 es)) h)

  flat-List : (members : List FlatMember) (at : ℕ) → AllByRecursion MemberIsShallow members → FlatIsShallow k (ListOf members at)
  flat-List members at h = members-row (members_of (ListOf members at)).0 (members_of (ListOf members at)).1 (subst (AllByRecursion MemberIsShallow) (sym (items_hidden-the_row-FlatMember-3 members)) h)

  flat-Sum : (head : FlatExpr) (more : List FlatSigned) → FlatIsShallow k head → AllByRecursion TermIsShallow more → FlatIsShallow k (Sum head more)
  unfolding boxes
  flat-Sum head more e h = (e, signed-row (signed_of (Sum head more)).0 (signed_of (Sum head more)).1 (subst (AllByRecursion TermIsShallow) (sym (items_hidden-the_row-FlatSigned-2 more)) h))

  flat-Not : (e : FlatExpr) (at : ℕ) → FlatIsShallow k e → FlatIsShallow k (Not e at)
  unfolding boxes
  flat-Not e at h = h

  flat-Modulo : (e : FlatExpr) (by at : ℕ) → FlatIsShallow k e → FlatIsShallow k (Modulo e by at)
  unfolding boxes
  flat-Modulo e by at h = h

  flat-Iff : (x y : FlatExpr) → FlatIsShallow k x → FlatIsShallow k y → FlatIsShallow k (Iff x y)
  unfolding boxes
  flat-Iff x y h g = (h, g)

  flat-Compare : (op : Op) (x y : FlatExpr) → FlatIsShallow k x → FlatIsShallow k y → FlatIsShallow k (Compare op x y)
  unfolding boxes
  flat-Compare op x y h g = (h, g)

  flat-Within : (x y : FlatExpr) → FlatIsShallow k x → FlatIsShallow k y → FlatIsShallow k (Within x y)
  unfolding boxes
  flat-Within x y h g = (h, g)

  flat-Choose : (c x y : FlatExpr) → FlatIsShallow k c → FlatIsShallow k x → FlatIsShallow k y → FlatIsShallow k (Choose c x y)
  unfolding boxes
  flat-Choose c x y f h g = (f, h, g)

  flat-All : (body : FlatExpr) (var : ℕ) (over : Simple) (at : ℕ) → k < most → FlatIsShallow (suc k) body → FlatIsShallow k (All body var over at)
  unfolding boxes
  flat-All body var over at i h = (i, h)

  flat-Any : (body : FlatExpr) (var : ℕ) (over : Simple) (at : ℕ) → k < most → FlatIsShallow (suc k) body → FlatIsShallow k (Any body var over at)
  unfolding boxes
  flat-Any body var over at i h = (i, h)

  abbrev IsShallowOrNone : Option FlatExpr → Type 0
  IsShallowOrNone None = Unit {0}
  IsShallowOrNone (Some e) = FlatIsShallow k e

  flat-term : (minus : Bool) (e : FlatExpr) → FlatIsShallow k e → TermIsShallow (roll-FlatSigned (record { minus = minus; of = e }))
  unfolding boxes
  flat-term minus e h = h

  flat-Block : (acts : List FlatStmt) → AllByRecursion (ActIsShallow k) acts → ActIsShallow k (Block acts)
  flat-Block acts h = acts-row (acts_of (Block acts)).0 (acts_of (Block acts)).1 (subst (AllByRecursion (ActIsShallow k)) (sym (items_hidden-the_row-FlatStmt-1 acts)) h)

  flat-If : (c : FlatExpr) (x y : FlatStmt) → FlatIsShallow k c → ActIsShallow k x → ActIsShallow k y → ActIsShallow k (If c x y)
  unfolding boxes
  flat-If c x y f h g = (f, h, g)

  flat-Default : (x y : FlatStmt) → ActIsShallow k x → ActIsShallow k y → ActIsShallow k (Default x y)
  unfolding boxes
  flat-Default x y h g = (h, g)

  flat-Forall : (var : ℕ) (over : Simple) (body : FlatStmt) → k < most → ActIsShallow (suc k) body → ActIsShallow k (Forall var over body)
  unfolding boxes
  flat-Forall var over body i h = (i, h)

flat-Each : (k var : ℕ) (over : Simple) (cond : Option FlatExpr) (at : ℕ) → k < most → IsShallowOrNone (suc k) cond → FlatIsShallow k (Each var over cond at)
unfolding boxes
flat-Each k var over None at i h = (i, tt)
flat-Each k var over (Some cond) at i h = (i, h)

-- ---- what shallow trees become

module _ (scope : Scope) where
  -- a variable, or a constant or an element with shallow indexes
  variable-shallow : (k : ℕ) (vars : Around) (name : Name) (at : ℕ) → IsShallowOrNone k (variable vars name at)
  variable-shallow k [] name at = tt
  variable-shallow k ((other, loop n) ∷ vars) name at = by_test (bytes_eq other name) (variable vars name at) (variable-shallow k vars name at)
    where
      by_test : (b : Bool) (o : Option FlatExpr) → IsShallowOrNone k o → IsShallowOrNone k (cond b (Some (Loop n at)) o)
      by_test true o h = tt
      by_test false o h = h
  variable-shallow k ((other, any) ∷ vars) name at = by_test (bytes_eq other name) (variable vars name at) (variable-shallow k vars name at)
    where
      by_test : (b : Bool) (o : Option FlatExpr) → IsShallowOrNone k o → IsShallowOrNone k (cond b (Some (Var (bound_in vars) at)) o)
      by_test true o h = tt
      by_test false o h = h

  at-shallow : (k : ℕ) (vars : Around) (path : Path) (at : ℕ) → IsShallowOrNone k (variable_at vars path at)
  at-shallow k vars [] at = tt
  at-shallow k vars (name ∷ []) at = variable-shallow k vars name at
  at-shallow k vars (name ∷ other ∷ more) at = tt

  constant-shallow : (k : ℕ) (path : Path) (at : ℕ) → FlatIsShallow k (constant_in scope path at)
  constant-shallow k [] at = tt
  constant-shallow k (name ∷ []) at = tt
  constant-shallow k (name ∷ other ∷ more) at = tt

  signal-shallow : (k : ℕ) (o : Option FlatExpr) (f : Option Family) (path : Path) (es : List FlatExpr) (at : ℕ) → IsShallowOrNone k o → AllByRecursion (FlatIsShallow k) es → FlatIsShallow k (or_signal scope o f path es at)
  signal-shallow k (Some e) f path es at h g = h
  signal-shallow k None (Some f) path es at h g = flat-Read k (family_number scope (scope.instance ++ path)) es at g
  signal-shallow k None None path es at h g = constant-shallow k path at

  mutual
    pub expr-shallow : (k : ℕ) (vars : Around) (e : Expr) → IsShallow k e → FlatIsShallow k (flat_expr scope vars e)
    expr-shallow k vars (tree.Number value at) h = tt
    expr-shallow k vars (tree.Signal' shape parts at) h =
        signal-shallow k (variable_at vars (fields_of (items-the_row-Part _ parts)) at) (family_at scope.families (scope.instance ++ fields_of (items-the_row-Part _ parts))) (fields_of (items-the_row-Part _ parts)) (flat_indexes scope vars parts) at
        (at-shallow k vars (fields_of (items-the_row-Part _ parts)) at) (indexes-shallow k vars parts h)
    expr-shallow k vars (tree.Not' shape (more_of-Expr e end_of-Expr) at) h = flat-Not k (flat_expr scope vars e) at (expr-shallow k vars e h)
    expr-shallow k vars (tree.And' shape parts) h = flat-And k (flat_row scope vars parts) (row-shallow k vars parts h)
    expr-shallow k vars (tree.Or' shape parts) h = flat-Or k (flat_row scope vars parts) (row-shallow k vars parts h)
    expr-shallow k vars (tree.Implies' shape parts) h = flat-Implies k (flat_row scope vars parts) (row-shallow k vars parts h)
    expr-shallow k vars (tree.Iff' l (more_of-Expr left end_of-Expr) r (more_of-Expr right end_of-Expr)) h =
        flat-Iff k (flat_expr scope vars left) (flat_expr scope vars right) (expr-shallow k vars left h.0) (expr-shallow k vars right h.1)
    expr-shallow k vars (tree.Compare' op l (more_of-Expr left end_of-Expr) r (more_of-Expr right end_of-Expr)) h =
        flat-Compare k op (flat_expr scope vars left) (flat_expr scope vars right) (expr-shallow k vars left h.0) (expr-shallow k vars right h.1)
    expr-shallow k vars (tree.Within' l (more_of-Expr left end_of-Expr) r (more_of-Expr set end_of-Expr)) h =
        flat-Within k (flat_expr scope vars left) (flat_expr scope vars set) (expr-shallow k vars left h.0) (expr-shallow k vars set h.1)
    expr-shallow k vars (tree.Sum' f (more_of-Expr first end_of-Expr) shape more) h =
        flat-Sum k (flat_expr scope vars first) (flat_signed scope vars more) (expr-shallow k vars first h.0) (signed-shallow k vars more h.1)
    expr-shallow k vars (tree.Modulo' shape (more_of-Expr e end_of-Expr) by at) h = flat-Modulo k (flat_expr scope vars e) by at (expr-shallow k vars e h)
    expr-shallow k vars (tree.Choose' c (more_of-Expr cond end_of-Expr) l (more_of-Expr left end_of-Expr) r (more_of-Expr right end_of-Expr)) h =
        flat-Choose k (flat_expr scope vars cond) (flat_expr scope vars left) (flat_expr scope vars right) (expr-shallow k vars cond h.0) (expr-shallow k vars left h.1) (expr-shallow k vars right h.2)
    expr-shallow k vars (tree.All' shape (more_of-Expr body end_of-Expr) var over at) h =
        flat-All k (flat_expr scope ((var.name, any) ∷ vars) body) (bound_in vars) (flat_over scope over) at h.0 (expr-shallow (suc k) ((var.name, any) ∷ vars) body h.1)
    expr-shallow k vars (tree.Any' shape (more_of-Expr body end_of-Expr) var over at) h =
        flat-Any k (flat_expr scope ((var.name, any) ∷ vars) body) (bound_in vars) (flat_over scope over) at h.0 (expr-shallow (suc k) ((var.name, any) ∷ vars) body h.1)
    expr-shallow k vars (tree.List' shape members at) h = flat-List k (flat_members scope vars members) at (members-shallow k vars members h)
    expr-shallow k vars (tree.Each' var over cond at) h =
        flat-Each k (bound_in vars) (flat_over scope over) (flat_condition scope ((var.name, any) ∷ vars) cond) at h.0 (condition-shallow (suc k) ((var.name, any) ∷ vars) cond h.1)

    row-shallow : {m : _} (k : ℕ) (vars : Around) (row : Row_of-Expr m) → PartsAreShallow k row → AllByRecursion (FlatIsShallow k) (flat_row scope vars row)
    row-shallow k vars end_of-Expr h = tt
    row-shallow k vars (more_of-Expr e rest) h = (expr-shallow k vars e h.0, row-shallow k vars rest h.1)

    indexes-shallow : {m : _} (k : ℕ) (vars : Around) (row : Row_of-Part m) → IndexesAreShallow k row → AllByRecursion (FlatIsShallow k) (flat_indexes scope vars row)
    indexes-shallow k vars end_of-Part h = tt
    indexes-shallow k vars (more_of-Part (Field word) rest) h = indexes-shallow k vars rest h
    indexes-shallow k vars (more_of-Part (At index) rest) h = (expr-shallow k vars index h.0, indexes-shallow k vars rest h.1)

    signed-shallow : {m : _} (k : ℕ) (vars : Around) (row : Row_of-Signed m) → TermsAreShallow k row → AllByRecursion (TermIsShallow k) (flat_signed scope vars row)
    signed-shallow k vars end_of-Signed h = tt
    signed-shallow k vars (more_of-Signed minus e rest) h = (flat-term k minus (flat_expr scope vars e) (expr-shallow k vars e h.0), signed-shallow k vars rest h.1)

    members-shallow : {m : _} (k : ℕ) (vars : Around) (row : Row_of-Member m) → MembersAreShallow k row → AllByRecursion (MemberIsShallow k) (flat_members scope vars row)
    members-shallow k vars end_of-Member h = tt
    members-shallow k vars (more_of-Member (OneOf e) rest) h = (expr-shallow k vars e h.0, members-shallow k vars rest h.1)
    members-shallow k vars (more_of-Member (SpanIn span at) rest) h = (tt, members-shallow k vars rest h)

    condition-shallow : (k : ℕ) (vars : Around) (cond : tree.Held-Expr-Each-2) → ConditionIsShallow k cond → IsShallowOrNone k (flat_condition scope vars cond)
    condition-shallow k vars tree.None' h = tt
    condition-shallow k vars (tree.Some' shape (more_of-Expr cond end_of-Expr)) h = expr-shallow k vars cond h

  list-shallow : (k : ℕ) (vars : Around) (es : List Expr) → AreShallow k es → AllByRecursion (FlatIsShallow k) (map (flat_expr scope vars) es)
  list-shallow k vars [] h = tt
  list-shallow k vars (e ∷ es) h = (expr-shallow k vars e h.0, list-shallow k vars es h.1)

  labels-shallow : (k : ℕ) (vars : Around) (es : List Expr) → AreShallow k es → AllByRecursion (MemberIsShallow k) (map (λ label. One (flat_expr scope vars label)) es)
  labels-shallow k vars [] h = tt
  labels-shallow k vars (e ∷ es) h = (expr-shallow k vars e h.0, labels-shallow k vars es h.1)

  turns-shallow : (k : ℕ) (act : ℕ → FlatStmt) → ((n : ℕ) → ActIsShallow k (act n)) → (ns : List ℕ) → AllByRecursion (ActIsShallow k) (map act ns)
  turns-shallow k act h [] = tt
  turns-shallow k act h (n ∷ ns) = (h n, turns-shallow k act h ns)

  mutual
    pub act-shallow : (k : ℕ) (vars : Around) (act : Stmt) → StatementIsShallow k act → ActIsShallow k (flat_stmt scope vars act)
    act-shallow k vars (stmt.Assign kind left value at) h = (list-shallow k vars (indexes_of (out-Path left).parts) h.0, expr-shallow k vars value h.1)
    act-shallow k vars (stmt.Block' shape parts) h = flat-Block k (flat_parts scope vars parts) (parts-shallow k vars parts h)
    act-shallow k vars (stmt.If' cond l (more_of-Stmt left end_of-Stmt) right at) h =
        flat-If k (flat_expr scope vars cond) (flat_stmt scope vars left) (flat_branch scope vars right) (expr-shallow k vars cond h.0) (act-shallow k vars left h.1) (branch-shallow k vars right h.2)
    act-shallow k vars (stmt.Switch' on shape arms other at) h =
        arms-shallow k vars arms (flat_expr scope vars on) (flat_branch scope vars other) h.1 (expr-shallow k vars on h.0) (branch-shallow k vars other h.2)
    act-shallow k vars (stmt.Default' l (more_of-Stmt left end_of-Stmt) r (more_of-Stmt right end_of-Stmt) at) h =
        flat-Default k (flat_stmt scope vars left) (flat_stmt scope vars right) (act-shallow k vars left h.0) (act-shallow k vars right h.1)
    act-shallow k vars (stmt.For' var from to closed step shape (more_of-Stmt body end_of-Stmt) at) h =
        flat-Block k (map (λ n. flat_stmt scope ((var.name, loop n) ∷ vars) body) (steps_of from to closed step))
        (turns-shallow k (λ n. flat_stmt scope ((var.name, loop n) ∷ vars) body) (λ n. act-shallow k ((var.name, loop n) ∷ vars) body h) (steps_of from to closed step))
    act-shallow k vars (stmt.Forall' var over shape (more_of-Stmt body end_of-Stmt) at) h =
        flat-Forall k (bound_in vars) (flat_over scope over) (flat_stmt scope ((var.name, any) ∷ vars) body) h.0 (act-shallow (suc k) ((var.name, any) ∷ vars) body h.1)

    parts-shallow : {m : _} (k : ℕ) (vars : Around) (row : Row_of-Stmt m) → StatementsAreShallow k row → AllByRecursion (ActIsShallow k) (flat_parts scope vars row)
    parts-shallow k vars end_of-Stmt h = tt
    parts-shallow k vars (more_of-Stmt part rest) h = (act-shallow k vars part h.0, parts-shallow k vars rest h.1)

    branch-shallow : (k : ℕ) (vars : Around) (o : Held-Stmt-If-2) → BranchIsShallow k o → ActIsShallow k (flat_branch scope vars o)
    branch-shallow k vars stmt.None' h = flat-Block k [] tt
    branch-shallow k vars (stmt.Some' shape (more_of-Stmt part end_of-Stmt)) h = act-shallow k vars part h

    arms-shallow : {m : _} (k : ℕ) (vars : Around) (row : Row_of-Arm m) (on : FlatExpr) (other : FlatStmt) → ArmsAreShallow k row → FlatIsShallow k on → ActIsShallow k other → ActIsShallow k (flat_arms scope vars row on other)
    arms-shallow k vars end_of-Arm on other h g o = o
    arms-shallow k vars (more_of-Arm labels body rest) on other h g o =
        flat-If k (Within on (ListOf (map (λ label. One (flat_expr scope vars label)) labels) (first_label labels))) (flat_stmt scope vars body) (flat_arms scope vars rest on other)
        (flat-Within k on (ListOf (map (λ label. One (flat_expr scope vars label)) labels) (first_label labels)) g
        (flat-List k (map (λ label. One (flat_expr scope vars label)) labels) (first_label labels) (labels-shallow k vars labels h.0)))
        (act-shallow k vars body h.1) (arms-shallow k vars rest on other h.2 g o)
