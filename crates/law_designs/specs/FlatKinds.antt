-- When no part of a flattened text breaks a rule of kinds, ranges and sets.
use Rattle.std.specs.Prelude.{ℕ, List, [], ◌∷◌, ◌++◌, map, length, get_or, slice_get, Option, Some, None, is_some, Bool, true, false, ◌&&◌, if◌then◌else◌, nat_eq, nat_le, nat_lt}
use Rattle.std.specs.List.{list_all}
use Rattle.smv_core.specs.declared.tree.Op.{Op}
use Rattle.smv_core.specs.declared.tree.Op.TheVariants.{Equal, Differ}
use Rattle.smv_core.specs.declared.flat.Simple.{Simple}
use Rattle.smv_core.specs.declared.flat.Simple.TheVariants.{Range, Enum, Set}
use Rattle.smv_core.specs.declared.flat.Family.{Family}
use Rattle.smv_core.specs.declared.flat.Param.{Param}
use Rattle.smv_core.specs.declared.flat.FlatMember.{One, Span as SpanOf}
use Rattle.smv_core.specs.declared.flat.FlatExpr.{FlatExpr, Number, Read', Var, Loop, Constant, Not', And', Or', Implies', Iff', Compare', Within', Sum', Modulo', Choose', All', Any', List', Each', None', Some', Row_of-FlatExpr, end_of-FlatExpr, more_of-FlatExpr, Row_of-FlatMember, end_of-FlatMember, more_of-FlatMember, Row_of-FlatSigned, end_of-FlatSigned, more_of-FlatSigned}
use Rattle.smv_core.specs.declared.flat.FlatStmt.{FlatStmt, Assign, If', Block', Default', Forall', Row_of-FlatStmt, end_of-FlatStmt, more_of-FlatStmt}
use Rattle.smv_core.specs.declared.flat.FlatItem.{FlatItem}
use Rattle.smv_core.specs.declared.flat.FlatItem.TheVariants as item
use Rattle.smv_core.specs.declared.flat.FlatText.{FlatText}
use Rattle.smv_core.specs.Rows.{one_flat_expr, one_flat_stmt, FlatCondition}

-- ---- kinds

-- a number, a constant of the enumeration of this number, or a value of the set type of this number
pub data FlatKind : Type 0 where
  number : FlatKind
  enumeration : ℕ → FlatKind
  set_type : ℕ → FlatKind

-- the kind of the values of a type
abbrev pub kind_of : Simple → FlatKind
kind_of (Range low high) = number
kind_of (Enum list) = enumeration list
kind_of (Set set) = set_type set

-- Two kinds that may stand side by side: equal ones. A number beside a value of a set type is left to the rules of set types.
abbrev pub joins : FlatKind → FlatKind → Bool
joins number number = true
joins number (set_type b) = true
joins (set_type a) number = true
joins (set_type a) (set_type b) = nat_eq a b
joins (enumeration a) (enumeration b) = nat_eq a b
joins _ _ = false

-- the kind of two that stand side by side: the left one's, but that of the set type where a number meets one
abbrev pub joined : FlatKind → FlatKind → FlatKind
joined number (set_type b) = set_type b
joined kind _ = kind

-- What is of the first kind, a target or an index type, takes a value of the second. A number for a set type is left to the rules of set types.
abbrev pub accepts : FlatKind → FlatKind → Bool
accepts number (set_type b) = false
accepts target kind = joins target kind

-- ---- operands, each by its kind, or none where it breaks a rule

-- an operand that may stand where this kind is wanted
abbrev pub takes : FlatKind → Option FlatKind → Bool
takes target None = false
takes target (Some kind) = accepts target kind

abbrev pub are_numbers : List (Option FlatKind) → Bool
are_numbers es = list_all (takes number) es

-- a number, where nothing in it breaks a rule
abbrev pub number_if : Bool → Option FlatKind
number_if true = Some number
number_if false = None

-- the kind of some operands that follow one of this kind, where each fits those before it
abbrev pub common_after : FlatKind → List (Option FlatKind) → Option FlatKind
common_after kind [] = Some kind
common_after kind (None ∷ more) = None
common_after kind (Some other ∷ more) = if joins kind other then common_after (joined kind other) more else None

-- the kind of operands that have one
abbrev pub common : List (Option FlatKind) → Option FlatKind
common [] = None
common (None ∷ more) = None
common (Some kind ∷ more) = common_after kind more

-- numbers and values of a set type may stand beside an order; which set types have one is left to the rules of set types
abbrev pub has_order : Option FlatKind → Bool
has_order None = false
has_order (Some (enumeration list)) = false
has_order (Some kind) = true

-- the sides of `=` and `~=` have one kind, and those of an order one that may stand there
abbrev pub compares : Op → Option FlatKind → Bool
compares Equal sides = is_some sides
compares Differ sides = is_some sides
compares op sides = has_order sides

-- `cond ? left : right`
abbrev pub chosen : Option FlatKind → Option FlatKind → Option FlatKind → Option FlatKind
chosen cond left right = if takes number cond then common (left ∷ right ∷ []) else None

-- an assignment of this value to this target
abbrev pub assigns : Option FlatKind → Option FlatKind → Bool
assigns None value = false
assigns (Some target) value = takes target value

-- exactly one index for each type, each of its kind
abbrev pub take_each : List Simple → List (Option FlatKind) → Bool
take_each [] [] = true
take_each (t ∷ over) (e ∷ indexes) = takes (kind_of t) e && take_each over indexes
take_each _ _ = false

-- an element of a family with these indexes
abbrev pub element : Option Family → List (Option FlatKind) → Option FlatKind
element None indexes = None
element (Some f) indexes = if take_each f.over indexes then Some (kind_of f.value) else None

-- the kinds of the variables that are bound around, each at its number
abbrev pub FlatVars : Type 0
FlatVars = List FlatKind

-- with one more variable over this type
abbrev pub inside : FlatVars → Simple → FlatVars
inside vars over = vars ++ kind_of over ∷ []

module _ (flat_text : FlatText) where
  -- ---- types

  -- a range from low to high within 255, an enumeration with a constant, or a set type of the text
  abbrev pub is_type : Simple → Bool
  is_type (Range low high) = nat_le low high && nat_le high 255
  is_type (Enum list) = nat_lt 0 (length (get_or flat_text.enums list []))
  is_type (Set set) = nat_lt set (length flat_text.sets)

  -- an index type is a range or a set type
  abbrev pub is_index_type : Simple → Bool
  is_index_type (Enum list) = false
  is_index_type t = is_type t

  -- a binder whose variable is numbered by how many are bound around it
  abbrev pub is_binder : FlatVars → ℕ → Simple → Bool
  is_binder vars var over = nat_eq var (length vars) && is_index_type over

  -- ---- expressions

  -- a constant of an enumeration of the text
  abbrev pub constant : ℕ → ℕ → Option FlatKind
  constant list value = if nat_lt value (length (get_or flat_text.enums list [])) then Some (enumeration list) else None

  abbrev mutual
    -- the kind of an expression where no set may stand
    pub kind_in : FlatVars → FlatExpr → Option FlatKind
    kind_in vars (Number value at) = Some number
    kind_in vars (Read' family shape indexes at) = element (slice_get flat_text.families family) (kinds_in vars indexes)
    kind_in vars (Var var at) = slice_get vars var
    kind_in vars (Loop value at) = Some number
    kind_in vars (Constant list value at) = constant list value
    kind_in vars (Not' shape (one_flat_expr e) at) = number_if (takes number (kind_in vars e))
    kind_in vars (And' shape parts) = number_if (are_numbers (kinds_in vars parts))
    kind_in vars (Or' shape parts) = number_if (are_numbers (kinds_in vars parts))
    kind_in vars (Implies' shape parts) = number_if (are_numbers (kinds_in vars parts))
    kind_in vars (Iff' l (one_flat_expr left) r (one_flat_expr right)) = number_if (are_numbers (kind_in vars left ∷ kind_in vars right ∷ []))
    kind_in vars (Compare' op l (one_flat_expr left) r (one_flat_expr right)) = number_if (compares op (common (kind_in vars left ∷ kind_in vars right ∷ [])))
    kind_in vars (Within' l (one_flat_expr left) r (one_flat_expr set)) = number_if (is_some (common (kind_in vars left ∷ looked_through vars set)))
    kind_in vars (Sum' f (one_flat_expr first) shape more) = number_if (are_numbers (kind_in vars first ∷ summands vars more))
    kind_in vars (Modulo' shape (one_flat_expr e) by at) = number_if (takes number (kind_in vars e) && nat_lt 0 by)
    kind_in vars (Choose' c (one_flat_expr cond) l (one_flat_expr left) r (one_flat_expr right)) = chosen (kind_in vars cond) (kind_in vars left) (kind_in vars right)
    kind_in vars (All' shape (one_flat_expr body) var over at) = number_if (is_binder vars var over && takes number (kind_in (inside vars over) body))
    kind_in vars (Any' shape (one_flat_expr body) var over at) = number_if (is_binder vars var over && takes number (kind_in (inside vars over) body))
    kind_in vars (List' shape members at) = None
    kind_in vars (Each' var over cond at) = None

    pub kinds_in : {m : _} → FlatVars → Row_of-FlatExpr m → List (Option FlatKind)
    kinds_in vars end_of-FlatExpr = []
    kinds_in vars (more_of-FlatExpr e rest) = kind_in vars e ∷ kinds_in vars rest

    pub summands : {m : _} → FlatVars → Row_of-FlatSigned m → List (Option FlatKind)
    summands vars end_of-FlatSigned = []
    summands vars (more_of-FlatSigned minus e rest) = kind_in vars e ∷ summands vars rest

    -- the members of a listed set; a span is not reversed
    pub members_in : {m : _} → FlatVars → Row_of-FlatMember m → List (Option FlatKind)
    members_in vars end_of-FlatMember = []
    members_in vars (more_of-FlatMember (One e) rest) = kind_in vars e ∷ members_in vars rest
    members_in vars (more_of-FlatMember (SpanOf span at) rest) = number_if (nat_le span.low span.high) ∷ members_in vars rest

    -- what stands right of `in`: the members of a listed set, and nothing else may
    pub looked_through : FlatVars → FlatExpr → List (Option FlatKind)
    looked_through vars (List' shape members at) = members_in vars members
    looked_through vars _ = None ∷ []

  -- the condition of a comprehension, or none
  abbrev pub is_condition : FlatVars → FlatCondition → Bool
  is_condition vars None' = true
  is_condition vars (Some' shape (one_flat_expr cond)) = takes number (kind_in vars cond)

  -- the kind of an assignment's value: a set may stand there, also as a branch of `?:`
  abbrev pub value_in : FlatVars → FlatExpr → Option FlatKind
  value_in vars (List' shape members at) = common (members_in vars members)
  value_in vars (Each' var over cond at) = if is_binder vars var over && is_condition (inside vars over) cond then Some (kind_of over) else None
  value_in vars (Choose' c (one_flat_expr cond) l (one_flat_expr left) r (one_flat_expr right)) = chosen (kind_in vars cond) (value_in vars left) (value_in vars right)
  value_in vars e = kind_in vars e

  -- ---- statements

  abbrev mutual
    -- no part of a statement breaks a rule
    pub keeps_kinds : FlatVars → FlatStmt → Bool
    keeps_kinds vars (Assign kind family left value at) = assigns (element (slice_get flat_text.families family) (map (kind_in vars) left)) (value_in vars value)
    keeps_kinds vars (If' cond l (one_flat_stmt left) r (one_flat_stmt right)) = takes number (kind_in vars cond) && (keeps_kinds vars left && keeps_kinds vars right)
    keeps_kinds vars (Block' shape parts) = all_keep_kinds vars parts
    keeps_kinds vars (Default' l (one_flat_stmt left) r (one_flat_stmt right)) = keeps_kinds vars left && keeps_kinds vars right
    keeps_kinds vars (Forall' var over shape (one_flat_stmt body)) = is_binder vars var over && keeps_kinds (inside vars over) body

    pub all_keep_kinds : {m : _} → FlatVars → Row_of-FlatStmt m → Bool
    all_keep_kinds vars end_of-FlatStmt = true
    all_keep_kinds vars (more_of-FlatStmt part rest) = keeps_kinds vars part && all_keep_kinds vars rest

  -- ---- items

  -- the variables around a claim, a split or a `using`, from the outside in; so many are bound around the first
  abbrev pub are_binders : FlatVars → List Param → Bool
  are_binders vars [] = true
  are_binders vars (p ∷ params) = is_binder vars p.var p.over && are_binders (inside vars p.over) params

  abbrev pub bound_by : List Param → FlatVars
  bound_by params = map (λ (p : Param). kind_of p.over) params

  -- A claim is a number. The expressions of a split have kinds; they are compared with those of its parameters later.
  abbrev pub is_kinded_item : FlatItem → Bool
  is_kinded_item (item.Act layer act) = keeps_kinds [] act
  is_kinded_item (item.Claim c) = are_binders [] c.params && takes number (kind_in (bound_by c.params) c.body)
  is_kinded_item (item.Split s) = are_binders [] s.bound && list_all (λ pair. is_some (kind_in (bound_by s.bound) pair.left)) s.pairs
  is_kinded_item (item.Using u) = are_binders [] u.bound

  -- ---- the text

  -- a family's indexes run over index types, and its value is of a type
  abbrev pub is_kinded_family : Family → Bool
  is_kinded_family f = list_all is_index_type f.over && is_type f.value

-- a declared size is that of a range of numbers up to 255
abbrev pub is_size : Option ℕ → Bool
is_size None = true
is_size (Some n) = nat_lt 0 n && nat_le n 256

-- No part of the flattened text breaks a rule of kinds, ranges and sets. That the argument of an output has constant indexes is a rule of the text alone: here it is an assignment as others are.
abbrev pub is_kinded : FlatText → Bool
is_kinded flat_text = list_all (λ info. is_size info.size) flat_text.sets && (list_all (λ names. nat_lt 0 (length names)) flat_text.enums && (list_all (is_kinded_family flat_text) flat_text.families && list_all (is_kinded_item flat_text) flat_text.items))
