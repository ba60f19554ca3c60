-- The faults of set types: a flattened text treats the values of a set type alike where it has none.
use Rattle.std.specs.Prelude.{List, [], ◌∷◌, ◌++◌, map, flat_map, slice_get, Option, Some, false}
use Rattle.smv_core.specs.declared.fault.Fault.{Fault}
use Rattle.smv_core.specs.declared.flat.FlatMember.{One, Span as SpanOf}
use Rattle.smv_core.specs.declared.flat.FlatExpr.{FlatExpr, Number, Read', Var, Loop, Constant, Not', And', Or', Implies', Iff', Compare', Within', Sum', Modulo', Choose', All', Any', List', Each', None', Some', Row_of-FlatExpr, end_of-FlatExpr, more_of-FlatExpr, Row_of-FlatMember, end_of-FlatMember, more_of-FlatMember, Row_of-FlatSigned, end_of-FlatSigned, more_of-FlatSigned}
use Rattle.smv_core.specs.declared.flat.FlatStmt.{FlatStmt, Assign, If', Block', Default', Forall', Row_of-FlatStmt, end_of-FlatStmt, more_of-FlatStmt}
use Rattle.smv_core.specs.declared.flat.FlatItem.{FlatItem}
use Rattle.smv_core.specs.declared.flat.FlatItem.TheVariants as item
use Rattle.smv_core.specs.declared.flat.FlatText.{FlatText}
use Rattle.smv_mentions.specs.FirstFault.{first_of}
use Rattle.law_designs.specs.FlatKinds.{FlatKind, number, FlatVars, inside, value_in, bound_by}
use Rattle.law_designs.specs.SetOperands.{SetOperand, first_at, is_loop, met, wanted_at, wanted_of, disordered}
use Rattle.smv_core.specs.Rows.{one_flat_expr, one_flat_stmt, FlatCondition}

-- in a flattened text whose expressions have these kinds
module _ (flat_text : FlatText) (kind_at : FlatVars → FlatExpr → Option FlatKind) where
  -- ---- operands

  abbrev pub operand : FlatVars → FlatExpr → SetOperand
  operand vars e = record { kind = kind_at vars e; at = first_at e; is_loop = is_loop e }

  abbrev pub operands : {m : _} → FlatVars → Row_of-FlatExpr m → List SetOperand
  operands vars end_of-FlatExpr = []
  operands vars (more_of-FlatExpr e others) = operand vars e ∷ operands vars others

  -- the members of a listed set: the numbers of a span are one operand
  abbrev pub members_of : {m : _} → FlatVars → Row_of-FlatMember m → List SetOperand
  members_of vars end_of-FlatMember = []
  members_of vars (more_of-FlatMember (One e) others) = operand vars e ∷ members_of vars others
  members_of vars (more_of-FlatMember (SpanOf span at) others) = record { kind = Some number; at = at; is_loop = false } ∷ members_of vars others

  -- what stands right of `in`
  abbrev pub listed : FlatVars → FlatExpr → List SetOperand
  listed vars (List' shape members at) = members_of vars members
  listed vars _ = []

  -- ---- expressions

  abbrev mutual
    -- in an expression inside these variables: the sides of comparisons, what is left of an `in` with the members, the members of a listed set, the branches of `?:`, and indexes
    pub faults_in : FlatVars → FlatExpr → List Fault
    faults_in vars (Number value at) = []
    faults_in vars (Read' family shape indexes at) = faults_each vars indexes ++ wanted_at (slice_get flat_text.families family) (operands vars indexes)
    faults_in vars (Var var at) = []
    faults_in vars (Loop value at) = []
    faults_in vars (Constant list value at) = []
    faults_in vars (Not' shape (one_flat_expr e) at) = faults_in vars e
    faults_in vars (And' shape parts) = faults_each vars parts
    faults_in vars (Or' shape parts) = faults_each vars parts
    faults_in vars (Implies' shape parts) = faults_each vars parts
    faults_in vars (Iff' l (one_flat_expr left) r (one_flat_expr right)) = faults_in vars left ++ faults_in vars right
    faults_in vars (Compare' op l (one_flat_expr left) r (one_flat_expr right)) =
        faults_in vars left ++ faults_in vars right ++ met (operand vars left ∷ operand vars right ∷ [])
        ++ disordered flat_text.sets op (operand vars left) ++ disordered flat_text.sets op (operand vars right)
    faults_in vars (Within' l (one_flat_expr left) r (one_flat_expr set)) =
        faults_in vars left ++ faults_in vars set ++ met (operand vars left ∷ listed vars set)
    faults_in vars (Sum' f (one_flat_expr head) shape more) = faults_in vars head ++ faults_signed vars more
    faults_in vars (Modulo' shape (one_flat_expr e) by at) = faults_in vars e
    faults_in vars (Choose' c (one_flat_expr cond) l (one_flat_expr left) r (one_flat_expr right)) =
        faults_in vars cond ++ faults_in vars left ++ faults_in vars right ++ met (operand vars left ∷ operand vars right ∷ [])
    faults_in vars (All' shape (one_flat_expr body) var over at) = faults_in (inside vars over) body
    faults_in vars (Any' shape (one_flat_expr body) var over at) = faults_in (inside vars over) body
    faults_in vars (List' shape members at) = faults_members vars members ++ met (members_of vars members)
    faults_in vars (Each' var over cond at) = faults_held (inside vars over) cond

    pub faults_each : {m : _} → FlatVars → Row_of-FlatExpr m → List Fault
    faults_each vars end_of-FlatExpr = []
    faults_each vars (more_of-FlatExpr e others) = faults_in vars e ++ faults_each vars others

    pub faults_signed : {m : _} → FlatVars → Row_of-FlatSigned m → List Fault
    faults_signed vars end_of-FlatSigned = []
    faults_signed vars (more_of-FlatSigned minus e others) = faults_in vars e ++ faults_signed vars others

    pub faults_members : {m : _} → FlatVars → Row_of-FlatMember m → List Fault
    faults_members vars end_of-FlatMember = []
    faults_members vars (more_of-FlatMember (One e) others) = faults_in vars e ++ faults_members vars others
    faults_members vars (more_of-FlatMember (SpanOf span at) others) = faults_members vars others

    pub faults_held : FlatVars → FlatCondition → List Fault
    faults_held vars None' = []
    faults_held vars (Some' shape (one_flat_expr cond)) = faults_in vars cond

  -- ---- statements

  abbrev mutual
    -- in a statement: its conditions, left sides and values, and values against their targets
    pub faults_of : FlatVars → FlatStmt → List Fault
    faults_of vars (Assign kind family left value at) =
        flat_map (faults_in vars) left ++ wanted_at (slice_get flat_text.families family) (map (operand vars) left)
        ++ faults_in vars value ++ wanted_of (slice_get flat_text.families family) (operand vars value)
    faults_of vars (If' cond l (one_flat_stmt left) r (one_flat_stmt right)) = faults_in vars cond ++ faults_of vars left ++ faults_of vars right
    faults_of vars (Block' shape parts) = faults_of_each vars parts
    faults_of vars (Default' l (one_flat_stmt left) r (one_flat_stmt right)) = faults_of vars left ++ faults_of vars right
    faults_of vars (Forall' var over shape (one_flat_stmt body)) = faults_of (inside vars over) body

    pub faults_of_each : {m : _} → FlatVars → Row_of-FlatStmt m → List Fault
    faults_of_each vars end_of-FlatStmt = []
    faults_of_each vars (more_of-FlatStmt part rest) = faults_of vars part ++ faults_of_each vars rest

  -- ---- items

  -- What the equations of a split meet is compared later: here they are read alone.
  abbrev pub item_faults : FlatItem → List Fault
  item_faults (item.Act layer act) = faults_of [] act
  item_faults (item.Claim c) = faults_in (bound_by flat_text c.params) c.body
  item_faults (item.Split s) = flat_map (λ pair. faults_in (bound_by flat_text s.bound) pair.left) s.pairs
  item_faults (item.Using u) = []

-- all faults of set types of a flattened text
abbrev pub faults_of_sets : FlatText → List Fault
faults_of_sets flat_text = flat_map (item_faults flat_text (value_in flat_text)) flat_text.items

-- The first of them, 21 or 22. A text with an earlier fault is not asked for.
abbrev pub first_fault_of_sets : FlatText → Option Fault
first_fault_of_sets flat_text = first_of (faults_of_sets flat_text)
