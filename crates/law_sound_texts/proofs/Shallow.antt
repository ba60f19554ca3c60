-- Trees whose binders are not too deep: with so many variables bound around, each binder has fewer than 65,536 around it.
use Rattle.std.proofs.Common.{◌<◌, ℕ, suc, List}
use Rattle.std.specs.List.{AllByRecursion}
use Rattle.smv_core.specs.Walk.{indexes_of}
use Rattle.smv_core.specs.declared.tree.Pair.{Pair}
use Rattle.smv_core.specs.declared.tree.Path.{out-Path}
use Rattle.smv_core.specs.declared.tree.Part.{Field, At}
use Rattle.smv_core.specs.declared.tree.Member.{One, Span as SpanOf}
use Rattle.smv_core.specs.declared.tree.Expr.{Expr, Number, Signal', Not', And', Or', Implies', Iff', Compare', Within', Sum', Modulo', Choose', All', Any', List', Each', Held-Expr-Each-2, None', Some', Row_of-Expr, end_of-Expr, more_of-Expr, Row_of-Part, end_of-Part, more_of-Part, Row_of-Member, end_of-Member, more_of-Member, Row_of-Signed, end_of-Signed, more_of-Signed}
use Rattle.smv_core.specs.declared.tree.Stmt.{Stmt, Assign, Block', If', Switch', Default', For', Forall', Held-Stmt-If-2, Row_of-Stmt, end_of-Stmt, more_of-Stmt, Row_of-Arm, end_of-Arm, more_of-Arm}
use Rattle.smv_core.specs.declared.tree.Stmt as stmt
use Rattle.smv_core.specs.declared.tree.Item.{Item, Declare, Instance, Layer, Claim, Split, Using, Act, Row_of-Item, end_of-Item, more_of-Item}
use Rattle.smv_core.specs.declared.tree.Item as item
use Rattle.smv_core.specs.declared.tree.Top.{Top}
use Rattle.smv_core.specs.declared.tree.Top.TheVariants.{SetType, Alias, Module}
use Rattle.smv_core.specs.declared.tree.Text.{Text}

-- so many variables
abbrev pub most : ℕ
most = 65536

abbrev mutual
  pub IsShallow : ℕ → Expr → Type 0
  IsShallow k (Number value at) = Unit {0}
  IsShallow k (Signal' shape parts at) = IndexesAreShallow k parts
  IsShallow k (Not' shape (more_of-Expr e end_of-Expr) at) = IsShallow k e
  IsShallow k (And' shape parts) = PartsAreShallow k parts
  IsShallow k (Or' shape parts) = PartsAreShallow k parts
  IsShallow k (Implies' shape parts) = PartsAreShallow k parts
  IsShallow k (Iff' l (more_of-Expr left end_of-Expr) r (more_of-Expr right end_of-Expr)) = IsShallow k left × IsShallow k right
  IsShallow k (Compare' op l (more_of-Expr left end_of-Expr) r (more_of-Expr right end_of-Expr)) = IsShallow k left × IsShallow k right
  IsShallow k (Within' l (more_of-Expr left end_of-Expr) r (more_of-Expr set end_of-Expr)) = IsShallow k left × IsShallow k set
  IsShallow k (Sum' f (more_of-Expr first end_of-Expr) shape more) = IsShallow k first × TermsAreShallow k more
  IsShallow k (Modulo' shape (more_of-Expr e end_of-Expr) by at) = IsShallow k e
  IsShallow k (Choose' c (more_of-Expr cond end_of-Expr) l (more_of-Expr left end_of-Expr) r (more_of-Expr right end_of-Expr)) = IsShallow k cond × IsShallow k left × IsShallow k right
  IsShallow k (All' shape (more_of-Expr body end_of-Expr) var over at) = (k < most) × IsShallow (suc k) body
  IsShallow k (Any' shape (more_of-Expr body end_of-Expr) var over at) = (k < most) × IsShallow (suc k) body
  IsShallow k (List' shape members at) = MembersAreShallow k members
  IsShallow k (Each' var over cond at) = (k < most) × ConditionIsShallow (suc k) cond

  pub PartsAreShallow : {m : _} → ℕ → Row_of-Expr m → Type 0
  PartsAreShallow k end_of-Expr = Unit {0}
  PartsAreShallow k (more_of-Expr e rest) = IsShallow k e × PartsAreShallow k rest

  pub IndexesAreShallow : {m : _} → ℕ → Row_of-Part m → Type 0
  IndexesAreShallow k end_of-Part = Unit {0}
  IndexesAreShallow k (more_of-Part (Field word) rest) = IndexesAreShallow k rest
  IndexesAreShallow k (more_of-Part (At index) rest) = IsShallow k index × IndexesAreShallow k rest

  pub TermsAreShallow : {m : _} → ℕ → Row_of-Signed m → Type 0
  TermsAreShallow k end_of-Signed = Unit {0}
  TermsAreShallow k (more_of-Signed minus e rest) = IsShallow k e × TermsAreShallow k rest

  pub MembersAreShallow : {m : _} → ℕ → Row_of-Member m → Type 0
  MembersAreShallow k end_of-Member = Unit {0}
  MembersAreShallow k (more_of-Member (One e) rest) = IsShallow k e × MembersAreShallow k rest
  MembersAreShallow k (more_of-Member (SpanOf span at) rest) = MembersAreShallow k rest

  pub ConditionIsShallow : ℕ → Held-Expr-Each-2 → Type 0
  ConditionIsShallow k None' = Unit {0}
  ConditionIsShallow k (Some' shape (more_of-Expr cond end_of-Expr)) = IsShallow k cond

abbrev pub AreShallow : ℕ → List Expr → Type 0
AreShallow k es = AllByRecursion (IsShallow k) es

abbrev mutual
  pub StatementIsShallow : ℕ → Stmt → Type 0
  StatementIsShallow k (Assign kind left value at) = AreShallow k (indexes_of (out-Path left).parts) × IsShallow k value
  StatementIsShallow k (Block' shape parts) = StatementsAreShallow k parts
  StatementIsShallow k (If' cond l (more_of-Stmt left end_of-Stmt) right at) = IsShallow k cond × StatementIsShallow k left × BranchIsShallow k right
  StatementIsShallow k (Switch' on shape arms other at) = IsShallow k on × ArmsAreShallow k arms × BranchIsShallow k other
  StatementIsShallow k (Default' l (more_of-Stmt left end_of-Stmt) r (more_of-Stmt right end_of-Stmt) at) = StatementIsShallow k left × StatementIsShallow k right
  StatementIsShallow k (For' var from to closed step shape (more_of-Stmt body end_of-Stmt) at) = StatementIsShallow k body
  StatementIsShallow k (Forall' var over shape (more_of-Stmt body end_of-Stmt) at) = (k < most) × StatementIsShallow (suc k) body

  pub StatementsAreShallow : {m : _} → ℕ → Row_of-Stmt m → Type 0
  StatementsAreShallow k end_of-Stmt = Unit {0}
  StatementsAreShallow k (more_of-Stmt part rest) = StatementIsShallow k part × StatementsAreShallow k rest

  pub BranchIsShallow : ℕ → Held-Stmt-If-2 → Type 0
  BranchIsShallow k stmt.None' = Unit {0}
  BranchIsShallow k (stmt.Some' shape (more_of-Stmt part end_of-Stmt)) = StatementIsShallow k part

  pub ArmsAreShallow : {m : _} → ℕ → Row_of-Arm m → Type 0
  ArmsAreShallow k end_of-Arm = Unit {0}
  ArmsAreShallow k (more_of-Arm labels body rest) = AreShallow k labels × StatementIsShallow k body × ArmsAreShallow k rest

abbrev mutual
  -- what may stand inside a `forall` or braces of a module: no declaration, no instance and no layer
  pub InnerIsShallow : ℕ → Item → Type 0
  InnerIsShallow k (Declare role words of at) = ⊥
  InnerIsShallow k (Instance words name args at) = ⊥
  InnerIsShallow k (Layer name body at) = ⊥
  InnerIsShallow k (item.Forall' var over shape (more_of-Item body end_of-Item) at) = (k < most) × InnerIsShallow (suc k) body
  InnerIsShallow k (item.Block' shape items) = InnersAreShallow k items
  InnerIsShallow k (Claim name vars body at) = IsShallow k body
  InnerIsShallow k (Split name vars of pairs at) = AllByRecursion (λ (pair : Pair). IsShallow k pair.left) pairs
  InnerIsShallow k (Using uses proves at) = Unit {0}
  InnerIsShallow k (Act act) = StatementIsShallow k act

  pub InnersAreShallow : {m : _} → ℕ → Row_of-Item m → Type 0
  InnersAreShallow k end_of-Item = Unit {0}
  InnersAreShallow k (more_of-Item part rest) = InnerIsShallow k part × InnersAreShallow k rest

-- what stands in a module
abbrev pub ItemIsShallow : Item → Type 0
ItemIsShallow (Declare role words of at) = Unit {0}
ItemIsShallow (Instance words name args at) = AreShallow 0 args
ItemIsShallow (Layer name body at) = AllByRecursion (StatementIsShallow 0) body
ItemIsShallow part = InnerIsShallow 0 part

abbrev pub TopIsShallow : Top → Type 0
TopIsShallow (SetType word ordered span at) = Unit {0}
TopIsShallow (Alias word of at) = Unit {0}
TopIsShallow (Module word formals body at) = AllByRecursion ItemIsShallow body

abbrev pub TextIsShallow : Text → Type 0
TextIsShallow text = AllByRecursion TopIsShallow text.tops
