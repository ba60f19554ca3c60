-- When each number of a flattened text fits its field.
use Rattle.std.specs.Prelude.{◌<◌, ◌≤◌, ℕ, List, length, IfSome}
use Rattle.std.specs.List.{AllByRecursion}
use Rattle.smv_core.specs.Values.{Name}
use Rattle.smv_core.specs.declared.flat.Simple.{Simple}
use Rattle.smv_core.specs.declared.flat.Simple.TheVariants.{Range, Enum, Set}
use Rattle.smv_core.specs.declared.flat.SetInfo.{SetInfo}
use Rattle.smv_core.specs.declared.flat.Family.{Family}
use Rattle.smv_core.specs.declared.flat.Param.{Param}
use Rattle.smv_core.specs.declared.flat.FlatPair.{FlatPair}
use Rattle.smv_core.specs.declared.flat.FlatMember.{One, Span as SpanOf}
use Rattle.smv_core.specs.declared.flat.FlatExpr.{FlatExpr, Number, Read', Var, Loop, Constant, Not', And', Or', Implies', Iff', Compare', Within', Sum', Modulo', Choose', All', Any', List', Each', None', Some', Row_of-FlatExpr, end_of-FlatExpr, more_of-FlatExpr, Row_of-FlatMember, end_of-FlatMember, more_of-FlatMember, Row_of-FlatSigned, end_of-FlatSigned, more_of-FlatSigned}
use Rattle.smv_core.specs.declared.flat.FlatStmt.{FlatStmt, Assign, If', Block', Default', Forall', Row_of-FlatStmt, end_of-FlatStmt, more_of-FlatStmt}
use Rattle.smv_core.specs.declared.flat.FlatItem.{FlatItem}
use Rattle.smv_core.specs.declared.flat.FlatItem.TheVariants as item
use Rattle.smv_core.specs.declared.flat.FlatText.{FlatText}
use Rattle.smv_core.specs.Rows.{one_flat_expr, one_flat_stmt, FlatCondition}

-- a number of 16 bits
abbrev pub IsShort : ℕ → Type 0
IsShort n = n < 65536

-- a number of 8 bits
abbrev pub IsByte : ℕ → Type 0
IsByte n = n < 256

-- the ends of a range, or the number of an enumeration or a set type
abbrev pub TypeFits : Simple → Type 0
TypeFits (Range low high) = IsByte low × IsByte high
TypeFits (Enum list) = IsShort list
TypeFits (Set set) = IsShort set

abbrev mutual
  -- Each number of a family, a variable, a constant or a type in an expression. What was written as a number fits from the start.
  pub ExprFits : FlatExpr → Type 0
  ExprFits (Number value at) = Unit {0}
  ExprFits (Read' family shape indexes at) = IsShort family × PartsFit indexes
  ExprFits (Var var at) = IsShort var
  ExprFits (Loop value at) = Unit {0}
  ExprFits (Constant list value at) = IsShort list × IsShort value
  ExprFits (Not' shape (one_flat_expr e) at) = ExprFits e
  ExprFits (And' shape parts) = PartsFit parts
  ExprFits (Or' shape parts) = PartsFit parts
  ExprFits (Implies' shape parts) = PartsFit parts
  ExprFits (Iff' l (one_flat_expr left) r (one_flat_expr right)) = ExprFits left × ExprFits right
  ExprFits (Compare' op l (one_flat_expr left) r (one_flat_expr right)) = ExprFits left × ExprFits right
  ExprFits (Within' l (one_flat_expr left) r (one_flat_expr set)) = ExprFits left × ExprFits set
  ExprFits (Sum' f (one_flat_expr head) shape more) = ExprFits head × TermsFit more
  ExprFits (Modulo' shape (one_flat_expr e) by at) = ExprFits e
  ExprFits (Choose' c (one_flat_expr cond) l (one_flat_expr left) r (one_flat_expr right)) = ExprFits cond × ExprFits left × ExprFits right
  ExprFits (All' shape (one_flat_expr body) var over at) = IsShort var × TypeFits over × ExprFits body
  ExprFits (Any' shape (one_flat_expr body) var over at) = IsShort var × TypeFits over × ExprFits body
  ExprFits (List' shape members at) = MembersFit members
  ExprFits (Each' var over cond at) = IsShort var × TypeFits over × ConditionFits cond

  pub PartsFit : {m : _} → Row_of-FlatExpr m → Type 0
  PartsFit end_of-FlatExpr = Unit {0}
  PartsFit (more_of-FlatExpr e rest) = ExprFits e × PartsFit rest

  pub TermsFit : {m : _} → Row_of-FlatSigned m → Type 0
  TermsFit end_of-FlatSigned = Unit {0}
  TermsFit (more_of-FlatSigned minus e rest) = ExprFits e × TermsFit rest

  pub MembersFit : {m : _} → Row_of-FlatMember m → Type 0
  MembersFit end_of-FlatMember = Unit {0}
  MembersFit (more_of-FlatMember (One e) rest) = ExprFits e × MembersFit rest
  MembersFit (more_of-FlatMember (SpanOf span at) rest) = MembersFit rest

  pub ConditionFits : FlatCondition → Type 0
  ConditionFits None' = Unit {0}
  ConditionFits (Some' shape (one_flat_expr cond)) = ExprFits cond

abbrev mutual
  -- the same in a statement
  pub StatementFits : FlatStmt → Type 0
  StatementFits (Assign kind family left value at) = IsShort family × AllByRecursion ExprFits left × ExprFits value
  StatementFits (If' cond l (one_flat_stmt left) r (one_flat_stmt right)) = ExprFits cond × StatementFits left × StatementFits right
  StatementFits (Block' shape parts) = StatementsFit parts
  StatementFits (Default' l (one_flat_stmt left) r (one_flat_stmt right)) = StatementFits left × StatementFits right
  StatementFits (Forall' var over shape (one_flat_stmt body)) = IsShort var × TypeFits over × StatementFits body

  pub StatementsFit : {m : _} → Row_of-FlatStmt m → Type 0
  StatementsFit end_of-FlatStmt = Unit {0}
  StatementsFit (more_of-FlatStmt part rest) = StatementFits part × StatementsFit rest

abbrev pub ParamFits : Param → Type 0
ParamFits p = IsShort p.var × TypeFits p.over

-- the same in an item, and the number of its layer
abbrev pub ItemFits : FlatItem → Type 0
ItemFits (item.Act layer act) = IfSome layer IsShort × StatementFits act
ItemFits (item.Claim c) = AllByRecursion ParamFits c.params × ExprFits c.body
ItemFits (item.Split s) = AllByRecursion ParamFits s.bound × AllByRecursion (λ (pair : FlatPair). ExprFits pair.left) s.pairs
ItemFits (item.Using u) = AllByRecursion ParamFits u.bound

abbrev pub FamilyFits : Family → Type 0
FamilyFits f = AllByRecursion TypeFits f.over × TypeFits f.value

-- the place of a claim among the assignments and claims
abbrev pub PlaceFits : FlatItem → Type 0
PlaceFits (item.Claim c) = c.place < 65536
PlaceFits _ = Unit {0}

-- Each number of a flattened text fits its field: the numbers and sizes of all set types, the numbers of all enumerations and of their constants, and those in families and
-- items.
pub record NumbersFit (flat_text : FlatText) : Type 0 where
  pub set_types : length flat_text.sets ≤ 65536
  pub sizes : AllByRecursion (λ (info : SetInfo). IfSome info.size IsShort) flat_text.sets
  pub enumerations : length flat_text.enums ≤ 65536
  pub constants : AllByRecursion (λ (names : List Name). length names ≤ 65536) flat_text.enums
  pub families : AllByRecursion FamilyFits flat_text.families
  pub items : AllByRecursion ItemFits flat_text.items
  pub places : AllByRecursion PlaceFits flat_text.items
