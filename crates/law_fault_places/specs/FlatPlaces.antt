-- Flattened texts and designs all of whose places are at most a number: those of their items and definitions. The place of a family's declaration is told by no call, and is not asked about.
use Rattle.std.specs.Prelude.{◌≤◌, ℕ, List}
use Rattle.std.specs.List.{AllByRecursion}
use Rattle.smv_core.specs.declared.tree.Text.{Text}
use Rattle.smv_core.specs.declared.flat.FlatMember.{One, Span as SpanOf}
use Rattle.smv_core.specs.declared.flat.FlatExpr.{FlatExpr, Number, Read', Var, Loop, Constant, Not', And', Or', Implies', Iff', Compare', Within', Sum', Modulo', Choose', All', Any', List', Each', None', Some', Row_of-FlatExpr, end_of-FlatExpr, more_of-FlatExpr, Row_of-FlatMember, end_of-FlatMember, more_of-FlatMember, Row_of-FlatSigned, end_of-FlatSigned, more_of-FlatSigned}
use Rattle.smv_core.specs.declared.flat.FlatStmt.{FlatStmt, Assign, If', Block', Default', Forall', Row_of-FlatStmt, end_of-FlatStmt, more_of-FlatStmt}
use Rattle.smv_core.specs.declared.flat.DefBody.{DefBody, Nothing, First', Row_of-DefBody, end_of-DefBody, more_of-DefBody}
use Rattle.smv_core.specs.declared.flat.DefBody as part
use Rattle.smv_core.specs.declared.flat.FlatPair.{FlatPair}
use Rattle.smv_core.specs.declared.flat.FlatSplit.{FlatSplit}
use Rattle.smv_core.specs.declared.flat.FlatUsing.{FlatUsing}
use Rattle.smv_core.specs.declared.flat.Claim.{Claim}
use Rattle.smv_core.specs.declared.flat.Def.{Def}
use Rattle.smv_core.specs.declared.flat.FlatItem.{FlatItem}
use Rattle.smv_core.specs.declared.flat.FlatItem.TheVariants as item
use Rattle.smv_core.specs.declared.flat.FlatText.{FlatText}
use Rattle.smv_core.specs.declared.flat.Design.{Design}
use Rattle.law_designs.specs.Flattening.{flatten}
use Rattle.law_designs.specs.Definitions.{design_of_flat_text}
use Rattle.law_fault_places.specs.TreePlaces.{WordIsWithin, WordsAreWithin, RefIsWithin, UseIsWithin, TextIsWithin}
use Rattle.smv_core.specs.Rows.{one_flat_expr, one_flat_stmt, FlatCondition}

module _ (n : ℕ) where
  -- ---- expressions

  abbrev mutual
    pub FlatExprIsWithin : FlatExpr → Type 0
    FlatExprIsWithin (Number value at) = at ≤ n
    FlatExprIsWithin (Read' family shape indexes at) = (at ≤ n) × FlatRowIsWithin indexes
    FlatExprIsWithin (Var var at) = at ≤ n
    FlatExprIsWithin (Loop value at) = at ≤ n
    FlatExprIsWithin (Constant list value at) = at ≤ n
    FlatExprIsWithin (Not' shape (one_flat_expr e) at) = (at ≤ n) × FlatExprIsWithin e
    FlatExprIsWithin (And' shape parts) = FlatRowIsWithin parts
    FlatExprIsWithin (Or' shape parts) = FlatRowIsWithin parts
    FlatExprIsWithin (Implies' shape parts) = FlatRowIsWithin parts
    FlatExprIsWithin (Iff' l (one_flat_expr left) r (one_flat_expr right)) = FlatExprIsWithin left × FlatExprIsWithin right
    FlatExprIsWithin (Compare' op l (one_flat_expr left) r (one_flat_expr right)) = FlatExprIsWithin left × FlatExprIsWithin right
    FlatExprIsWithin (Within' l (one_flat_expr left) r (one_flat_expr set)) = FlatExprIsWithin left × FlatExprIsWithin set
    FlatExprIsWithin (Sum' f (one_flat_expr head) shape more) = FlatExprIsWithin head × FlatTermsAreWithin more
    FlatExprIsWithin (Modulo' shape (one_flat_expr e) by at) = (at ≤ n) × FlatExprIsWithin e
    FlatExprIsWithin (Choose' c (one_flat_expr cond) l (one_flat_expr left) r (one_flat_expr right)) = FlatExprIsWithin cond × FlatExprIsWithin left × FlatExprIsWithin right
    FlatExprIsWithin (All' shape (one_flat_expr body) var over at) = (at ≤ n) × FlatExprIsWithin body
    FlatExprIsWithin (Any' shape (one_flat_expr body) var over at) = (at ≤ n) × FlatExprIsWithin body
    FlatExprIsWithin (List' shape members at) = (at ≤ n) × FlatMembersAreWithin members
    FlatExprIsWithin (Each' var over cond at) = (at ≤ n) × FlatConditionIsWithin cond

    pub FlatRowIsWithin : {m : _} → Row_of-FlatExpr m → Type 0
    FlatRowIsWithin end_of-FlatExpr = Unit {0}
    FlatRowIsWithin (more_of-FlatExpr e rest) = FlatExprIsWithin e × FlatRowIsWithin rest

    pub FlatTermsAreWithin : {m : _} → Row_of-FlatSigned m → Type 0
    FlatTermsAreWithin end_of-FlatSigned = Unit {0}
    FlatTermsAreWithin (more_of-FlatSigned minus e rest) = FlatExprIsWithin e × FlatTermsAreWithin rest

    pub FlatMembersAreWithin : {m : _} → Row_of-FlatMember m → Type 0
    FlatMembersAreWithin end_of-FlatMember = Unit {0}
    FlatMembersAreWithin (more_of-FlatMember (One e) rest) = FlatExprIsWithin e × FlatMembersAreWithin rest
    FlatMembersAreWithin (more_of-FlatMember (SpanOf span at) rest) = (at ≤ n) × FlatMembersAreWithin rest

    pub FlatConditionIsWithin : FlatCondition → Type 0
    FlatConditionIsWithin None' = Unit {0}
    FlatConditionIsWithin (Some' shape (one_flat_expr cond)) = FlatExprIsWithin cond

  abbrev pub FlatExprsAreWithin : List FlatExpr → Type 0
  FlatExprsAreWithin es = AllByRecursion FlatExprIsWithin es

  -- ---- statements

  abbrev mutual
    pub ActIsWithin : FlatStmt → Type 0
    ActIsWithin (Assign kind family left value at) = (at ≤ n) × FlatExprsAreWithin left × FlatExprIsWithin value
    ActIsWithin (If' cond l (one_flat_stmt left) r (one_flat_stmt right)) = FlatExprIsWithin cond × ActIsWithin left × ActIsWithin right
    ActIsWithin (Block' shape parts) = ActsAreWithin parts
    ActIsWithin (Default' l (one_flat_stmt left) r (one_flat_stmt right)) = ActIsWithin left × ActIsWithin right
    ActIsWithin (Forall' var over shape (one_flat_stmt body)) = ActIsWithin body

    pub ActsAreWithin : {m : _} → Row_of-FlatStmt m → Type 0
    ActsAreWithin end_of-FlatStmt = Unit {0}
    ActsAreWithin (more_of-FlatStmt part rest) = ActIsWithin part × ActsAreWithin rest

  -- ---- items

  abbrev pub ClaimIsWithin : Claim → Type 0
  ClaimIsWithin c = WordsAreWithin n c.vars × FlatExprIsWithin c.body × (c.at ≤ n)

  abbrev pub FlatPairIsWithin : FlatPair → Type 0
  FlatPairIsWithin pair = FlatExprIsWithin pair.left × WordIsWithin n pair.right × (pair.at ≤ n)

  abbrev pub SplitIsWithin : FlatSplit → Type 0
  SplitIsWithin s = WordsAreWithin n s.vars × RefIsWithin n s.of × AllByRecursion FlatPairIsWithin s.pairs × (s.at ≤ n)

  abbrev pub UsingIsWithin : FlatUsing → Type 0
  UsingIsWithin u = AllByRecursion (UseIsWithin n) u.uses × AllByRecursion (RefIsWithin n) u.proves × (u.at ≤ n)

  abbrev pub FlatItemIsWithin : FlatItem → Type 0
  FlatItemIsWithin (item.Act layer act) = ActIsWithin act
  FlatItemIsWithin (item.Claim c) = ClaimIsWithin c
  FlatItemIsWithin (item.Split s) = SplitIsWithin s
  FlatItemIsWithin (item.Using u) = UsingIsWithin u

  -- a flattened text
  abbrev pub FlatTextIsWithin : FlatText → Type 0
  FlatTextIsWithin flat_text = AllByRecursion FlatItemIsWithin flat_text.items

  -- ---- designs

  abbrev mutual
    pub PartOfIsWithin : DefBody → Type 0
    PartOfIsWithin Nothing = Unit {0}
    PartOfIsWithin (part.Assign left value place at) = (at ≤ n) × FlatExprsAreWithin left × FlatExprIsWithin value
    PartOfIsWithin (part.If' cond l (more_of-DefBody left end_of-DefBody) r (more_of-DefBody right end_of-DefBody)) = FlatExprIsWithin cond × PartOfIsWithin left × PartOfIsWithin right
    PartOfIsWithin (First' shape parts) = PartsOfAreWithin parts
    PartOfIsWithin (part.Forall' var over shape (more_of-DefBody body end_of-DefBody)) = PartOfIsWithin body

    pub PartsOfAreWithin : {m : _} → Row_of-DefBody m → Type 0
    PartsOfAreWithin end_of-DefBody = Unit {0}
    PartsOfAreWithin (more_of-DefBody one rest) = PartOfIsWithin one × PartsOfAreWithin rest

  abbrev pub DefIsWithin : Def → Type 0
  DefIsWithin def = PartOfIsWithin def.init × PartOfIsWithin def.next × PartOfIsWithin def.comb × (def.at ≤ n)

  pub record DesignIsWithin (d : Design) : Type 0 where
    pub defs : AllByRecursion DefIsWithin d.defs
    pub claims : AllByRecursion ClaimIsWithin d.claims
    pub splits : AllByRecursion SplitIsWithin d.splits
    pub uses : AllByRecursion UsingIsWithin d.uses

-- ---- the laws in short

-- what is flattened keeps places
abbrev pub FlattenedTextsAreWithin : Type 0
FlattenedTextsAreWithin = (n : ℕ) (text : Text) → TextIsWithin n text → FlatTextIsWithin n (flatten text)

-- and so does the design of a flattened text
abbrev pub DesignsAreWithin : Type 0
DesignsAreWithin = (n : ℕ) (flat_text : FlatText) → FlatTextIsWithin n flat_text → DesignIsWithin n (design_of_flat_text flat_text)
