-- The kinds of expressions as the code finds them: each expression has one, also where it breaks a rule of kinds. With them come the first faults of the parts of
-- a text.
use Rattle.std.specs.Prelude.{ℕ, List, [], ◌∷◌, map, slice_get, Option, Some, None, false, if◌then◌else◌}
use Rattle.smv_core.specs.declared.fault.Fault.{Fault}
use Rattle.smv_core.specs.declared.tree.Op.{Op}
use Rattle.smv_core.specs.declared.flat.Family.{Family}
use Rattle.smv_core.specs.declared.flat.FlatMember.{FlatMember, One, Span as SpanOf}
use Rattle.smv_core.specs.declared.flat.FlatSigned.{FlatSigned, out-FlatSigned}
use Rattle.smv_core.specs.declared.flat.FlatExpr.{FlatExpr, Read', Var, Constant, Choose', List', Each', Row_of-FlatMember, end_of-FlatMember, more_of-FlatMember}
use Rattle.smv_core.specs.declared.flat.FlatStmt.{FlatStmt}
use Rattle.smv_core.specs.declared.flat.FlatItem.{FlatItem}
use Rattle.smv_core.specs.declared.flat.FlatText.{FlatText}
use Rattle.smv_mentions.specs.FirstFault.{first_of}
use Rattle.smv_first_fault.specs.Firsts.{earlier_of}
use Rattle.law_designs.specs.FlatKinds.{FlatKind, number, enumeration, kind_of, joined, FlatVars}
use Rattle.law_designs.specs.SetOperands.{SetOperand, first_at, is_number, number_fault, met, disordered, wanted_at, wanted_of}
use Rattle.law_designs.specs.SetFaults as faults
use Rattle.smv_core.specs.Rows.{one_flat_expr}

-- the kind of an element of a family, and of a variable
abbrev pub value_kind : Option Family → FlatKind
value_kind None = number
value_kind (Some f) = kind_of f.value

abbrev pub variable_kind : Option FlatKind → FlatKind
variable_kind None = number
variable_kind (Some kind) = kind

-- the kind of some operands together
abbrev pub joined_after : FlatKind → List FlatKind → FlatKind
joined_after kind [] = kind
joined_after kind (other ∷ more) = joined_after (joined kind other) more

abbrev pub joined_all : List FlatKind → FlatKind
joined_all [] = number
joined_all (kind ∷ more) = joined_after kind more

-- the first of some faults, if there is one
abbrev pub first_among : List (Option Fault) → Option Fault
first_among [] = None
first_among (f ∷ more) = earlier_of f (first_among more)

-- the fault of an operand that meets a set type
abbrev pub fault_if_number : SetOperand → Option Fault
fault_if_number x = if is_number x.kind then Some (number_fault x) else None

-- the members of a listed set
abbrev pub members_in : {m : _} → Row_of-FlatMember m → List FlatMember
members_in end_of-FlatMember = []
members_in (more_of-FlatMember x others) = x ∷ members_in others

unfoldable pub members_of : FlatExpr → List FlatMember
members_of (List' shape members at) = members_in members
members_of _ = []

-- the place of an expression, and of the first of some
unfoldable pub place : FlatExpr → ℕ
place e = first_at e

abbrev pub first_place : List FlatExpr → ℕ
first_place [] = 0
first_place (e ∷ more) = place e

module _ (flat_text : FlatText) where
  unfoldable mutual
    -- the kind of an expression
    pub kind_in : FlatVars → FlatExpr → FlatKind
    kind_in vars (Read' family shape indexes at) = value_kind (slice_get flat_text.families family)
    kind_in vars (Var var at) = variable_kind (slice_get vars var)
    kind_in vars (Constant list value at) = enumeration list
    kind_in vars (Choose' c cond l (one_flat_expr left) r (one_flat_expr right)) = joined (kind_in vars left) (kind_in vars right)
    kind_in vars (List' shape members at) = joined_all (member_kinds vars members)
    kind_in vars (Each' var over cond at) = kind_of over
    kind_in vars _ = number

    pub member_kinds : {m : _} → FlatVars → Row_of-FlatMember m → List FlatKind
    member_kinds vars end_of-FlatMember = []
    member_kinds vars (more_of-FlatMember (One e) others) = kind_in vars e ∷ member_kinds vars others
    member_kinds vars (more_of-FlatMember (SpanOf span at) others) = number ∷ member_kinds vars others

  abbrev pub member_kind : FlatVars → FlatMember → FlatKind
  member_kind vars (One e) = kind_in vars e
  member_kind vars (SpanOf span at) = number

  -- ---- operands

  abbrev pub sort_in : FlatVars → FlatExpr → Option FlatKind
  sort_in vars e = Some (kind_in vars e)

  abbrev pub operand : FlatVars → FlatExpr → SetOperand
  operand vars e = faults.operand flat_text sort_in vars e

  abbrev pub member_operand : FlatVars → FlatMember → SetOperand
  member_operand vars (One e) = operand vars e
  member_operand vars (SpanOf span at) = record { kind = Some number; at = at; is_loop = false }

  -- ---- the first faults of parts

  unfoldable pub fault_in : FlatVars → FlatExpr → Option Fault
  fault_in vars e = first_of (faults.faults_in flat_text sort_in vars e)

  abbrev pub both_faults : FlatVars → FlatExpr → FlatExpr → Option Fault
  both_faults vars left right = earlier_of (fault_in vars left) (fault_in vars right)

  abbrev pub member_fault : FlatVars → FlatMember → Option Fault
  member_fault vars (One e) = fault_in vars e
  member_fault vars (SpanOf span at) = None

  abbrev pub signed_fault : FlatVars → FlatSigned → Option Fault
  signed_fault vars x = fault_in vars (out-FlatSigned x).of

  -- the sides of a comparison, the branches of `?:`, the members of a listed set, and what is left of `in` with the members
  abbrev pub compared : FlatVars → Op → FlatExpr → FlatExpr → Option Fault
  compared vars op left right =
      earlier_of (first_of (met (operand vars left ∷ operand vars right ∷ [])))
      (earlier_of (first_of (disordered flat_text.sets op (operand vars left))) (first_of (disordered flat_text.sets op (operand vars right))))

  abbrev pub chosen : FlatVars → FlatExpr → FlatExpr → Option Fault
  chosen vars left right = first_of (met (operand vars left ∷ operand vars right ∷ []))

  abbrev pub listed : FlatVars → List FlatMember → Option Fault
  listed vars members = first_of (met (map (member_operand vars) members))

  abbrev pub looked_for : FlatVars → FlatExpr → FlatExpr → Option Fault
  looked_for vars left set = first_of (met (operand vars left ∷ map (member_operand vars) (members_of set)))

  abbrev pub assigned_fault : FlatVars → ℕ → List FlatExpr → FlatExpr → Option Fault
  assigned_fault vars family left value =
      earlier_of (earlier_of (earlier_of (first_among (map (fault_in vars) left)) (first_of (wanted_at (slice_get flat_text.families family) (map (operand vars) left)))) (fault_in vars value))
      (first_of (wanted_of (slice_get flat_text.families family) (operand vars value)))

  unfoldable pub statement_fault : FlatVars → FlatStmt → Option Fault
  statement_fault vars act = first_of (faults.faults_of flat_text sort_in vars act)

  abbrev pub both_statement_faults : FlatVars → FlatStmt → FlatStmt → Option Fault
  both_statement_faults vars left right = earlier_of (statement_fault vars left) (statement_fault vars right)

  unfoldable pub item_fault : FlatItem → Option Fault
  item_fault x = first_of (faults.item_faults flat_text sort_in x)
