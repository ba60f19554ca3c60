-- Which variables an expression reads.
use Rattle.std.specs.Prelude.{◌≡◌, ℕ, Bool, true, ◌&&◌, ◌||◌, nat_eq, nat_lt}
use Rattle.smv_core.specs.declared.flat.FlatMember.{One, Span as SpanOf}
use Rattle.smv_core.specs.declared.flat.FlatExpr.{FlatExpr, Number, Read', Var, Loop, Constant, Not', And', Or', Implies', Iff', Compare', Within', Sum', Modulo', Choose', All', Any', List', Each', None', Some', Row_of-FlatExpr, end_of-FlatExpr, more_of-FlatExpr, Row_of-FlatMember, end_of-FlatMember, more_of-FlatMember, Row_of-FlatSigned, end_of-FlatSigned, more_of-FlatSigned}
use Rattle.smv_core.specs.Rows.{one_flat_expr, FlatCondition}

-- the variables before this one
abbrev pub before : ℕ → ℕ → Bool
before var k = nat_lt k var

-- under a binder: its variable, and the variables around that it does not cut off
abbrev pub under : ℕ → (ℕ → Bool) → ℕ → Bool
under var scope k = nat_eq k var || (nat_lt k var && scope k)

abbrev mutual
  -- each variable that the expression does not bind is one of these
  pub ReadsOnly : (ℕ → Bool) → FlatExpr → Type 0
  ReadsOnly scope (Number value at) = Unit {0}
  ReadsOnly scope (Read' family shape indexes at) = ReadOnly scope indexes
  ReadsOnly scope (Var var at) = scope var ≡ true
  ReadsOnly scope (Loop value at) = Unit {0}
  ReadsOnly scope (Constant list value at) = Unit {0}
  ReadsOnly scope (Not' shape (one_flat_expr e) at) = ReadsOnly scope e
  ReadsOnly scope (And' shape parts) = ReadOnly scope parts
  ReadsOnly scope (Or' shape parts) = ReadOnly scope parts
  ReadsOnly scope (Implies' shape parts) = ReadOnly scope parts
  ReadsOnly scope (Iff' l (one_flat_expr left) r (one_flat_expr right)) = ReadsOnly scope left × ReadsOnly scope right
  ReadsOnly scope (Compare' op l (one_flat_expr left) r (one_flat_expr right)) = ReadsOnly scope left × ReadsOnly scope right
  ReadsOnly scope (Within' l (one_flat_expr left) r (one_flat_expr set)) = ReadsOnly scope left × ReadsOnly scope set
  ReadsOnly scope (Sum' f (one_flat_expr head) shape more) = ReadsOnly scope head × ReadSigned scope more
  ReadsOnly scope (Modulo' shape (one_flat_expr e) by at) = ReadsOnly scope e
  ReadsOnly scope (Choose' c (one_flat_expr cond) l (one_flat_expr left) r (one_flat_expr right)) =
      ReadsOnly scope cond × ReadsOnly scope left × ReadsOnly scope right
  ReadsOnly scope (All' shape (one_flat_expr body) var over at) = ReadsOnly (under var scope) body
  ReadsOnly scope (Any' shape (one_flat_expr body) var over at) = ReadsOnly (under var scope) body
  ReadsOnly scope (List' shape members at) = ReadMembers scope members
  ReadsOnly scope (Each' var over cond at) = ReadHeld (under var scope) cond

  pub ReadOnly : {m : _} → (ℕ → Bool) → Row_of-FlatExpr m → Type 0
  ReadOnly scope end_of-FlatExpr = Unit {0}
  ReadOnly scope (more_of-FlatExpr e others) = ReadsOnly scope e × ReadOnly scope others

  pub ReadSigned : {m : _} → (ℕ → Bool) → Row_of-FlatSigned m → Type 0
  ReadSigned scope end_of-FlatSigned = Unit {0}
  ReadSigned scope (more_of-FlatSigned minus e others) = ReadsOnly scope e × ReadSigned scope others

  pub ReadMembers : {m : _} → (ℕ → Bool) → Row_of-FlatMember m → Type 0
  ReadMembers scope end_of-FlatMember = Unit {0}
  ReadMembers scope (more_of-FlatMember (One e) others) = ReadsOnly scope e × ReadMembers scope others
  ReadMembers scope (more_of-FlatMember (SpanOf span at) others) = ReadMembers scope others

  pub ReadHeld : (ℕ → Bool) → FlatCondition → Type 0
  ReadHeld scope None' = Unit {0}
  ReadHeld scope (Some' shape (one_flat_expr cond)) = ReadsOnly scope cond
