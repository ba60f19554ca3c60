-- What the grammar gives of each tree: what stands as an index type, which lists are not empty, which sets stand right of `in`, and where names are declared.
use Rattle.std.specs.Prelude.{List, [], ◌∷◌}
use Rattle.std.specs.List.{AllByRecursion}
use Rattle.smv_core.specs.Walk.{indexes_of}
use Rattle.smv_core.specs.declared.tree.Path.{out-Path}
use Rattle.smv_core.specs.declared.tree.Part.{Field, At}
use Rattle.smv_core.specs.declared.tree.Member.{One, Span as SpanOf}
use Rattle.smv_core.specs.declared.tree.TypeExpr.{TypeExpr, Enum, Array', Struct', Row_of-Field, end_of-Field, more_of-Field}
use Rattle.smv_core.specs.declared.tree.Expr.{Expr, Number, Signal', Not', And', Or', Implies', Iff', Compare', Within', Sum', Modulo', Choose', All', Any', List', Each', None', Some', Row_of-Expr, end_of-Expr, more_of-Expr, Row_of-Part, end_of-Part, more_of-Part, Row_of-Member, end_of-Member, more_of-Member, Row_of-Signed, end_of-Signed, more_of-Signed}
use Rattle.smv_core.specs.declared.tree.Stmt.{Stmt, Assign, Block', If', Switch', Default', For', Forall', Row_of-Stmt, end_of-Stmt, more_of-Stmt, Row_of-Arm, end_of-Arm, more_of-Arm}
use Rattle.smv_core.specs.declared.tree.Stmt as stmt
use Rattle.smv_core.specs.declared.tree.Item.{Item, Declare, Instance, Layer, Claim, Split, Using, Act, Row_of-Item, end_of-Item, more_of-Item}
use Rattle.smv_core.specs.declared.tree.Item as item
use Rattle.smv_core.specs.declared.tree.Pair.{Pair}
use Rattle.smv_core.specs.declared.tree.Top.{Top}
use Rattle.smv_core.specs.declared.tree.Top.TheVariants.{SetType, Alias, Module}
use Rattle.smv_core.specs.declared.tree.Text.{Text}
use Rattle.law_designs.specs.Agreement.{IsIndexType}
use Rattle.smv_core.specs.Rows.{one_expr, one_stmt, one_type, Condition, Otherwise}

-- ---- lists

-- a list that is not empty
abbrev pub HasOne : {X : Type 0} → List X → Type 0
HasOne [] = ⊥
HasOne (x ∷ xs) = Unit {0}

-- ---- types

abbrev mutual
  -- each array in a type has an index type, and each enumeration a constant
  pub TypeIsWritten : TypeExpr → Type 0
  TypeIsWritten (Array' i (one_type index) o (one_type of)) = IsIndexType index × TypeIsWritten of
  TypeIsWritten (Enum names at) = HasOne names
  TypeIsWritten (Struct' shape fields) = FieldsAreWritten fields
  TypeIsWritten _ = Unit {0}

  pub FieldsAreWritten : {m : _} → Row_of-Field m → Type 0
  FieldsAreWritten end_of-Field = Unit {0}
  FieldsAreWritten (more_of-Field names of at rest) = TypeIsWritten of × FieldsAreWritten rest

-- ---- expressions

-- a listed set or a comprehension
abbrev pub IsSet : Expr → Type 0
IsSet (List' shape members at) = Unit {0}
IsSet (Each' var over cond at) = Unit {0}
IsSet _ = ⊥

-- a listed set has a member
abbrev pub HasMember : {m : _} → Row_of-Member m → Type 0
HasMember end_of-Member = ⊥
HasMember (more_of-Member member rest) = Unit {0}

abbrev mutual
  -- each binder in an expression has an index type, each listed set a member, and right of each `in` stands a set
  pub IsWritten : Expr → Type 0
  IsWritten (Number value at) = Unit {0}
  IsWritten (Signal' shape parts at) = IndexesAreWritten parts
  IsWritten (Not' shape (one_expr e) at) = IsWritten e
  IsWritten (And' shape parts) = PartsAreWritten parts
  IsWritten (Or' shape parts) = PartsAreWritten parts
  IsWritten (Implies' shape parts) = PartsAreWritten parts
  IsWritten (Iff' l (one_expr left) r (one_expr right)) = IsWritten left × IsWritten right
  IsWritten (Compare' op l (one_expr left) r (one_expr right)) = IsWritten left × IsWritten right
  IsWritten (Within' l (one_expr left) r (one_expr set)) = IsWritten left × IsWritten set × IsSet set
  IsWritten (Sum' f (one_expr first) shape more) = IsWritten first × TermsAreWritten more
  IsWritten (Modulo' shape (one_expr e) by at) = IsWritten e
  IsWritten (Choose' c (one_expr cond) l (one_expr left) r (one_expr right)) = IsWritten cond × IsWritten left × IsWritten right
  IsWritten (All' shape (one_expr body) var over at) = IsWritten body × IsIndexType over
  IsWritten (Any' shape (one_expr body) var over at) = IsWritten body × IsIndexType over
  IsWritten (List' shape members at) = HasMember members × MembersAreWritten members
  IsWritten (Each' var over cond at) = ConditionIsWritten cond × IsIndexType over

  pub PartsAreWritten : {m : _} → Row_of-Expr m → Type 0
  PartsAreWritten end_of-Expr = Unit {0}
  PartsAreWritten (more_of-Expr e rest) = IsWritten e × PartsAreWritten rest

  pub IndexesAreWritten : {m : _} → Row_of-Part m → Type 0
  IndexesAreWritten end_of-Part = Unit {0}
  IndexesAreWritten (more_of-Part (Field word) rest) = IndexesAreWritten rest
  IndexesAreWritten (more_of-Part (At index) rest) = IsWritten index × IndexesAreWritten rest

  pub TermsAreWritten : {m : _} → Row_of-Signed m → Type 0
  TermsAreWritten end_of-Signed = Unit {0}
  TermsAreWritten (more_of-Signed minus e rest) = IsWritten e × TermsAreWritten rest

  pub MembersAreWritten : {m : _} → Row_of-Member m → Type 0
  MembersAreWritten end_of-Member = Unit {0}
  MembersAreWritten (more_of-Member (One e) rest) = IsWritten e × MembersAreWritten rest
  MembersAreWritten (more_of-Member (SpanOf span at) rest) = MembersAreWritten rest

  pub ConditionIsWritten : Condition → Type 0
  ConditionIsWritten None' = Unit {0}
  ConditionIsWritten (Some' shape (one_expr cond)) = IsWritten cond

abbrev pub AreWritten : List Expr → Type 0
AreWritten es = AllByRecursion IsWritten es

-- ---- statements

abbrev mutual
  -- the same of each expression in a statement, and of its binders
  pub StatementIsWritten : Stmt → Type 0
  StatementIsWritten (Assign kind left value at) = AreWritten (indexes_of (out-Path left).parts) × IsWritten value
  StatementIsWritten (Block' shape parts) = StatementsAreWritten parts
  StatementIsWritten (If' cond l (one_stmt left) right at) = IsWritten cond × StatementIsWritten left × BranchIsWritten right
  StatementIsWritten (Switch' on shape arms other at) = IsWritten on × ArmsAreWritten arms × BranchIsWritten other
  StatementIsWritten (Default' l (one_stmt left) r (one_stmt right) at) = StatementIsWritten left × StatementIsWritten right
  StatementIsWritten (For' var from to closed step shape (one_stmt body) at) = StatementIsWritten body
  StatementIsWritten (Forall' var over shape (one_stmt body) at) = StatementIsWritten body × IsIndexType over

  pub StatementsAreWritten : {m : _} → Row_of-Stmt m → Type 0
  StatementsAreWritten end_of-Stmt = Unit {0}
  StatementsAreWritten (more_of-Stmt part rest) = StatementIsWritten part × StatementsAreWritten rest

  pub BranchIsWritten : Otherwise → Type 0
  BranchIsWritten stmt.None' = Unit {0}
  BranchIsWritten (stmt.Some' shape (one_stmt part)) = StatementIsWritten part

  pub ArmsAreWritten : {m : _} → Row_of-Arm m → Type 0
  ArmsAreWritten end_of-Arm = Unit {0}
  ArmsAreWritten (more_of-Arm labels body rest) = AreWritten labels × StatementIsWritten body × ArmsAreWritten rest

-- ---- items

abbrev mutual
  -- what may stand inside a `forall` or braces of a module: no declaration, no instance and no layer
  pub InnerIsWritten : Item → Type 0
  InnerIsWritten (Declare role words of at) = ⊥
  InnerIsWritten (Instance words name args at) = ⊥
  InnerIsWritten (Layer name body at) = ⊥
  InnerIsWritten (item.Forall' var over shape (more_of-Item body end_of-Item) at) = InnerIsWritten body × IsIndexType over
  InnerIsWritten (item.Block' shape items) = InnersAreWritten items
  InnerIsWritten (Claim name vars body at) = IsWritten body
  InnerIsWritten (Split name vars of pairs at) = AllByRecursion (λ (pair : Pair). IsWritten pair.left) pairs
  InnerIsWritten (Using uses proves at) = Unit {0}
  InnerIsWritten (Act act) = StatementIsWritten act

  pub InnersAreWritten : {m : _} → Row_of-Item m → Type 0
  InnersAreWritten end_of-Item = Unit {0}
  InnersAreWritten (more_of-Item part rest) = InnerIsWritten part × InnersAreWritten rest

-- what stands in a module
abbrev pub ItemIsWritten : Item → Type 0
ItemIsWritten (Declare role words of at) = TypeIsWritten of
ItemIsWritten (Instance words name args at) = AreWritten args
ItemIsWritten (Layer name body at) = AllByRecursion StatementIsWritten body
ItemIsWritten part = InnerIsWritten part

-- ---- the text

abbrev pub TopIsWritten : Top → Type 0
TopIsWritten (SetType word ordered span at) = Unit {0}
TopIsWritten (Alias word of at) = TypeIsWritten of
TopIsWritten (Module word formals body at) = AllByRecursion ItemIsWritten body

-- a tree that is as the grammar has it in these points
abbrev pub TextIsWritten : Text → Type 0
TextIsWritten text = AllByRecursion TopIsWritten text.tops
