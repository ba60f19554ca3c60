-- Which variables an expression reads from around it, and bindings that agree on them.
use Rattle.std.specs.Prelude.{◌≡◌, ℕ, suc, zero, List, [], ◌∷◌, Bool, true, false, ◌&&◌, ◌||◌, nat_eq, nat_lt}
use Rattle.smv_core.specs.declared.flat.FlatMember.{One, Span as SpanOf}
use Rattle.smv_core.specs.declared.flat.FlatExpr.{FlatExpr, Number, Read', Var, Loop, Constant, Not', And', Or', Implies', Iff', Compare', Within', Sum', Modulo', Choose', All', Any', List', Each', None', Some', Row_of-FlatExpr, end_of-FlatExpr, more_of-FlatExpr, Row_of-FlatMember, end_of-FlatMember, more_of-FlatMember, Row_of-FlatSigned, end_of-FlatSigned, more_of-FlatSigned}
use Rattle.law_obligations.specs.Places.{Place, World}
use Rattle.law_obligations.specs.May.{AbsState, Kept, may}
use Rattle.smv_core.specs.Rows.{one_flat_expr, FlatCondition}

abbrev mutual
  -- the variable of this number occurs free in the expression; a binder cuts off the variables from its own number on
  pub reads : ℕ → FlatExpr → Bool
  reads k (Number value at) = false
  reads k (Read' family shape indexes at) = one_reads k indexes
  reads k (Var var at) = nat_eq var k
  reads k (Loop value at) = false
  reads k (Constant list value at) = false
  reads k (Not' shape (one_flat_expr e) at) = reads k e
  reads k (And' shape parts) = one_reads k parts
  reads k (Or' shape parts) = one_reads k parts
  reads k (Implies' shape parts) = one_reads k parts
  reads k (Iff' l (one_flat_expr left) r (one_flat_expr right)) = reads k left || reads k right
  reads k (Compare' op l (one_flat_expr left) r (one_flat_expr right)) = reads k left || reads k right
  reads k (Within' l (one_flat_expr left) r (one_flat_expr set)) = reads k left || reads k set
  reads k (Sum' f (one_flat_expr head) shape more) = reads k head || signed_read k more
  reads k (Modulo' shape (one_flat_expr e) by at) = reads k e
  reads k (Choose' c (one_flat_expr cond) l (one_flat_expr left) r (one_flat_expr right)) = reads k cond || (reads k left || reads k right)
  reads k (All' shape (one_flat_expr body) var over at) = nat_lt k var && reads k body
  reads k (Any' shape (one_flat_expr body) var over at) = nat_lt k var && reads k body
  reads k (List' shape members at) = members_read k members
  reads k (Each' var over cond at) = nat_lt k var && condition_reads k cond

  pub one_reads : {m : _} → ℕ → Row_of-FlatExpr m → Bool
  one_reads k end_of-FlatExpr = false
  one_reads k (more_of-FlatExpr e others) = reads k e || one_reads k others

  pub signed_read : {m : _} → ℕ → Row_of-FlatSigned m → Bool
  signed_read k end_of-FlatSigned = false
  signed_read k (more_of-FlatSigned minus e others) = reads k e || signed_read k others

  pub members_read : {m : _} → ℕ → Row_of-FlatMember m → Bool
  members_read k end_of-FlatMember = false
  members_read k (more_of-FlatMember (One e) others) = reads k e || members_read k others
  members_read k (more_of-FlatMember (SpanOf span at) others) = members_read k others

  pub condition_reads : ℕ → FlatCondition → Bool
  condition_reads k None' = false
  condition_reads k (Some' shape (one_flat_expr cond)) = reads k cond

-- two bindings of equally many variables that agree on each variable whose number passes the test
abbrev pub Agree : {X : Type 0} → (ℕ → Bool) → List X → List X → Type 0
Agree test [] [] = Unit {0}
Agree test (x ∷ xs) (y ∷ ys) = (test zero ≡ true → x ≡ y) × Agree (λ k. test (suc k)) xs ys
Agree test _ _ = ⊥

-- the variables that an expression does not read do not matter
abbrev pub OthersDoNotMatter : Type 0
OthersDoNotMatter = (w : World) (kept : Kept) (a : AbsState) (e : FlatExpr) (b c : List Place) → Agree (λ k. reads k e) b c → may w kept a e b ≡ may w kept a e c
