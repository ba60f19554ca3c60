-- Whole expressions: each element is read with one index for each type of its family.
use Rattle.std.specs.Prelude.{List, [], ◌∷◌, slice_get, Option, Some, None}
use Rattle.smv_core.specs.declared.flat.Simple.{Simple as FlatSimple}
use Rattle.smv_core.specs.declared.flat.Family.{Family}
use Rattle.smv_core.specs.declared.flat.Def.{Def}
use Rattle.smv_core.specs.declared.flat.DefBody.{DefBody, Nothing, Assign, If', First', Forall', Row_of-DefBody, end_of-DefBody, more_of-DefBody}
use Rattle.smv_core.specs.declared.flat.FlatMember.{One, Span as SpanOf}
use Rattle.smv_core.specs.declared.flat.FlatExpr.{FlatExpr, Number, Read', Var, Loop, Constant, Not', And', Or', Implies', Iff', Compare', Within', Sum', Modulo', Choose', All', Any', List', Each', None', Some', Row_of-FlatExpr, end_of-FlatExpr, more_of-FlatExpr, Row_of-FlatMember, end_of-FlatMember, more_of-FlatMember, Row_of-FlatSigned, end_of-FlatSigned, more_of-FlatSigned}
use Rattle.law_obligations.specs.Sets.{Has}
use Rattle.smv_core.specs.Rows.{one_flat_expr, FlatCondition}

-- one index for each type
abbrev pub OneForEach : {m : _} → List FlatSimple → Row_of-FlatExpr m → Type 0
OneForEach [] end_of-FlatExpr = Unit {0}
OneForEach (t ∷ over) (more_of-FlatExpr e others) = OneForEach over others
OneForEach _ _ = ⊥

-- an element of a family that is not there has no value
abbrev pub OneForEachOf : {m : _} → Option Family → Row_of-FlatExpr m → Type 0
OneForEachOf (Some f) indexes = OneForEach f.over indexes
OneForEachOf None indexes = Unit {0}

module _ (families : List Family) where
  abbrev mutual
    pub IsWhole : FlatExpr → Type 0
    IsWhole (Number value at) = Unit {0}
    IsWhole (Read' family shape indexes at) = OneForEachOf (slice_get families family) indexes × AreWhole indexes
    IsWhole (Var var at) = Unit {0}
    IsWhole (Loop value at) = Unit {0}
    IsWhole (Constant list value at) = Unit {0}
    IsWhole (Not' shape (one_flat_expr e) at) = IsWhole e
    IsWhole (And' shape parts) = AreWhole parts
    IsWhole (Or' shape parts) = AreWhole parts
    IsWhole (Implies' shape parts) = AreWhole parts
    IsWhole (Iff' l (one_flat_expr left) r (one_flat_expr right)) = IsWhole left × IsWhole right
    IsWhole (Compare' op l (one_flat_expr left) r (one_flat_expr right)) = IsWhole left × IsWhole right
    IsWhole (Within' l (one_flat_expr left) r (one_flat_expr set)) = IsWhole left × IsWhole set
    IsWhole (Sum' f (one_flat_expr head) shape more) = IsWhole head × AreWholeSigned more
    IsWhole (Modulo' shape (one_flat_expr e) by at) = IsWhole e
    IsWhole (Choose' c (one_flat_expr cond) l (one_flat_expr left) r (one_flat_expr right)) = IsWhole cond × IsWhole left × IsWhole right
    IsWhole (All' shape (one_flat_expr body) var over at) = IsWhole body
    IsWhole (Any' shape (one_flat_expr body) var over at) = IsWhole body
    IsWhole (List' shape members at) = AreWholeMembers members
    IsWhole (Each' var over cond at) = IsWholeHeld cond

    pub AreWhole : {m : _} → Row_of-FlatExpr m → Type 0
    AreWhole end_of-FlatExpr = Unit {0}
    AreWhole (more_of-FlatExpr e others) = IsWhole e × AreWhole others

    pub AreWholeSigned : {m : _} → Row_of-FlatSigned m → Type 0
    AreWholeSigned end_of-FlatSigned = Unit {0}
    AreWholeSigned (more_of-FlatSigned minus e others) = IsWhole e × AreWholeSigned others

    pub AreWholeMembers : {m : _} → Row_of-FlatMember m → Type 0
    AreWholeMembers end_of-FlatMember = Unit {0}
    AreWholeMembers (more_of-FlatMember (One e) others) = IsWhole e × AreWholeMembers others
    AreWholeMembers (more_of-FlatMember (SpanOf span at) others) = AreWholeMembers others

    pub IsWholeHeld : FlatCondition → Type 0
    IsWholeHeld None' = Unit {0}
    IsWholeHeld (Some' shape (one_flat_expr cond)) = IsWhole cond

  abbrev mutual
    -- each expression of a definition is whole
    pub IsWholeFlat : DefBody → Type 0
    IsWholeFlat Nothing = Unit {0}
    IsWholeFlat (Assign left value place at) = ((e : FlatExpr) → Has left e → IsWhole e) × IsWhole value
    IsWholeFlat (If' cond l (more_of-DefBody left end_of-DefBody) r (more_of-DefBody right end_of-DefBody)) = IsWhole cond × IsWholeFlat left × IsWholeFlat right
    IsWholeFlat (First' shape parts) = AreWholeFlats parts
    IsWholeFlat (Forall' var over shape (more_of-DefBody body end_of-DefBody)) = IsWholeFlat body

    pub AreWholeFlats : {m : _} → Row_of-DefBody m → Type 0
    AreWholeFlats end_of-DefBody = Unit {0}
    AreWholeFlats (more_of-DefBody part others) = IsWholeFlat part × AreWholeFlats others

  pub record IsWholeDef (def : Def) : Type 0 where
    pub init : IsWholeFlat def.init
    pub next : IsWholeFlat def.next
    pub comb : IsWholeFlat def.comb
