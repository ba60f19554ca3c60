-- What meets a set type: operands, each with its kind and its place.
use Rattle.std.specs.Prelude.{ℕ, List, [], ◌∷◌, map, flat_map, filter, zip, slice_get, Option, Some, None, Bool, true, false, not, ◌&&◌, if◌then◌else◌}
use Rattle.std.specs.List.{list_any}
use Rattle.smv_core.specs.declared.fault.Fault.{Fault}
use Rattle.smv_core.specs.declared.tree.Op.{Op}
use Rattle.smv_core.specs.declared.tree.Op.TheVariants.{Equal, Differ}
use Rattle.smv_core.specs.declared.flat.Simple.{Simple}
use Rattle.smv_core.specs.declared.flat.SetInfo.{SetInfo}
use Rattle.smv_core.specs.declared.flat.Family.{Family}
use Rattle.smv_core.specs.declared.flat.FlatExpr.{FlatExpr, Number, Read', Var, Loop, Constant, Not', And', Or', Implies', Iff', Compare', Within', Sum', Modulo', Choose', All', Any', List', Each', Row_of-FlatExpr, end_of-FlatExpr, more_of-FlatExpr}
use Rattle.law_designs.specs.FlatKinds.{FlatKind, number, set_type, kind_of}
use Rattle.smv_core.specs.Rows.{one_flat_expr}

-- ---- places

abbrev mutual
  -- the place of an expression: its first token other than `(`
  pub first_at : FlatExpr → ℕ
  first_at (Number value at) = at
  first_at (Read' family shape indexes at) = at
  first_at (Var var at) = at
  first_at (Loop value at) = at
  first_at (Constant list value at) = at
  first_at (Not' shape e at) = at
  first_at (And' shape parts) = first_at_of parts
  first_at (Or' shape parts) = first_at_of parts
  first_at (Implies' shape parts) = first_at_of parts
  first_at (Iff' l (one_flat_expr left) r right) = first_at left
  first_at (Compare' op l (one_flat_expr left) r right) = first_at left
  first_at (Within' l (one_flat_expr left) r set) = first_at left
  first_at (Sum' f (one_flat_expr head) shape more) = first_at head
  first_at (Modulo' shape (one_flat_expr e) by at) = first_at e
  first_at (Choose' c (one_flat_expr cond) l left r right) = first_at cond
  first_at (All' shape body var over at) = at
  first_at (Any' shape body var over at) = at
  first_at (List' shape members at) = at
  first_at (Each' var over cond at) = at

  pub first_at_of : {m : _} → Row_of-FlatExpr m → ℕ
  first_at_of end_of-FlatExpr = 0
  first_at_of (more_of-FlatExpr e others) = first_at e

-- the variable of a `for` that is written out, alone
abbrev pub is_loop : FlatExpr → Bool
is_loop (Loop value at) = true
is_loop _ = false

-- ---- operands

-- an operand by its kind, where it stands, and whether it is the variable of a `for` alone
pub record SetOperand : Type 0 where
  pub kind : Option FlatKind
  pub at : ℕ
  pub is_loop : Bool

-- a number
abbrev pub is_number : Option FlatKind → Bool
is_number (Some number) = true
is_number _ = false

-- a value of a set type
abbrev pub is_of_set : Option FlatKind → Bool
is_of_set (Some (set_type set)) = true
is_of_set _ = false

-- ---- faults 21 and 22

-- a number that meets a set type: fault 22 where it is the variable of a `for` alone
abbrev pub number_fault : SetOperand → Fault
number_fault x = record { number = if x.is_loop then 22 else 21; at = x.at }

-- of operands that meet, where one is a value of a set type, each that is a number
abbrev pub met : List SetOperand → List Fault
met operands = if list_any (λ x. is_of_set x.kind) operands then map number_fault (filter (λ x. is_number x.kind) operands) else []

-- a number where a value of this type is wanted, if it is a set type
abbrev pub wanted : Simple → SetOperand → List Fault
wanted t x = if is_of_set (Some (kind_of t)) && is_number x.kind then number_fault x ∷ [] else []

-- the indexes of an element of a family
abbrev pub wanted_at : Option Family → List SetOperand → List Fault
wanted_at None indexes = []
wanted_at (Some f) indexes = flat_map (λ (t, x). wanted t x) (zip f.over indexes)

-- the value of an element of a family
abbrev pub wanted_of : Option Family → SetOperand → List Fault
wanted_of None x = []
wanted_of (Some f) x = wanted f.value x

-- a comparison other than `=` and `~=`
abbrev pub is_order : Op → Bool
is_order Equal = false
is_order Differ = false
is_order _ = true

-- a scalarset lacks the orders
abbrev pub is_unordered : Option SetInfo → Bool
is_unordered None = false
is_unordered (Some info) = not info.ordered

-- a value of a scalarset
abbrev pub lacks_order : List SetInfo → Option FlatKind → Bool
lacks_order sets (Some (set_type set)) = is_unordered (slice_get sets set)
lacks_order sets _ = false

-- a value of a scalarset beside an order
abbrev pub disordered : List SetInfo → Op → SetOperand → List Fault
disordered sets op x = if is_order op && lacks_order sets x.kind then record { number = 21; at = x.at } ∷ [] else []
