-- The least and the greatest number that an expression can have, by the types of what it reads and by the conditions around it.
use Rattle.std.specs.Prelude.{ℕ, Bool, true, false, ◌+◌, ◌-◌, List, map, Option, Some, None, if◌then◌else◌, min, max, nat_lt, option_map, slice_get}
use Rattle.smv_core.specs.Rows.{one_flat_expr}
use Rattle.smv_core.specs.declared.flat.Simple.{Simple}
use Rattle.smv_core.specs.declared.flat.Simple.TheVariants.{Range}
use Rattle.smv_core.specs.declared.flat.Family.{Family}
use Rattle.smv_core.specs.declared.flat.FlatExpr.{FlatExpr, Number, Read', Var, Loop, Constant, Sum', Modulo', Choose', List', Each', Row_of-FlatSigned, end_of-FlatSigned, more_of-FlatSigned, items-the_row-FlatExpr}
use Rattle.smv_look_bounds.specs.declared.numbers.Bounds.{Bounds}
use Rattle.smv_look_bounds.specs.Narrowing.{Given, Target, element, variable, index_in, narrowed}

-- a number alone
abbrev pub just : ℕ → Bounds
just k = record { low = k; high = k }

-- what logic gives
abbrev pub a_bit : Bounds
a_bit = record { low = 0; high = 1 }

-- the numbers of a type
abbrev pub numbers_of : Option Simple → Option Bounds
numbers_of (Some (Range low high)) = Some (record { low = low; high = high })
numbers_of _ = None

-- the type of a family's values
abbrev pub value_type : Option Family → Option Simple
value_type f = option_map (λ (f : Family). f.value) f

-- a sum up to 511, or a difference down to 0
abbrev pub add_bounds : Bool → Bounds → Bounds → Bounds
add_bounds false a b = record { low = min (a.low + b.low) 511; high = min (a.high + b.high) 511 }
add_bounds true a b = record { low = a.low - b.high; high = a.high - b.low }

abbrev pub added : Bool → Option Bounds → Option Bounds → Option Bounds
added minus (Some a) (Some b) = Some (add_bounds minus a b)
added _ _ _ = None

-- a remainder
abbrev pub remainder : ℕ → Bounds → Bounds
remainder by b = if nat_lt b.high by then b else record { low = 0; high = by - 1 }

-- of one or the other
abbrev pub one_of : Option Bounds → Option Bounds → Option Bounds
one_of (Some a) (Some b) = Some (record { low = min a.low b.low; high = max a.high b.high })
one_of _ _ = None

-- what a reference can be that has a type
abbrev pub read_bounds : List Given → Target → Option Simple → Option Bounds
read_bounds givens t over = option_map (narrowed givens t) (numbers_of over)

-- the variables that are bound around have these types, and these conditions stand around
module _ (families : List Family) (vars : List Simple) (givens : List Given) where
  unfoldable mutual
    pub bounds : FlatExpr → Option Bounds
    bounds (Number value at) = Some (just value)
    bounds (Loop value at) = Some (just value)
    bounds (Read' family shape indexes at) = read_bounds givens (element family (map index_in (items-the_row-FlatExpr _ indexes))) (value_type (slice_get families family))
    bounds (Var var at) = read_bounds givens (variable var) (slice_get vars var)
    bounds (Sum' f (one_flat_expr head) shape more) = bounds_sum (bounds head) more
    bounds (Modulo' shape (one_flat_expr e) by at) = option_map (remainder by) (bounds e)
    bounds (Choose' c cond l (one_flat_expr left) r (one_flat_expr right)) = one_of (bounds left) (bounds right)
    bounds (Constant list value at) = None
    bounds (List' shape members at) = None
    bounds (Each' var over cond at) = None
    bounds _ = Some a_bit

    pub bounds_sum : {m : _} → Option Bounds → Row_of-FlatSigned m → Option Bounds
    bounds_sum b end_of-FlatSigned = b
    bounds_sum b (more_of-FlatSigned minus e rest) = bounds_sum (added minus b (bounds e)) rest
