-- Worked examples: expressions in a small case, with the outcomes that were worked out by hand.
use Rattle.std.specs.Prelude.{◌≡◌, ℕ, zero, suc, List, [], ◌∷◌, map, Some, None, true, false, if◌then◌else◌, codes}
use Rattle.std.specs.Str.{bytes_eq}
use Rattle.std.specs.List.{list_all}
use Rattle.smv_core.specs.Values.{Name, Value, number, constant, scalar, ordinal}
use Rattle.smv_core.specs.FlatMeaning.{Numbered}
use Rattle.smv_core.specs.declared.tree.Op.TheVariants.{Equal, Differ, Less, AtMost, Greater, AtLeast}
use Rattle.smv_core.specs.declared.flat.Simple.{Simple}
use Rattle.smv_core.specs.declared.flat.Simple.TheVariants.{Range, Enum, Set}
use Rattle.smv_core.specs.declared.flat.Family.{Family}
use Rattle.smv_core.specs.declared.flat.FlatExpr.{FlatExpr, Number, Read, Var, Constant, Not, And, Implies, Compare, Within, Choose, All, Any, List as Listed, Sum, Modulo}
use Rattle.smv_core.specs.declared.flat.FlatMember.{One, Span as SpanOf}
use Rattle.smv_core.specs.declared.flat.FlatSigned.{roll-FlatSigned}
use Rattle.smv_core.specs.declared.abstract_type.Rest.TheVariants as beside
use Rattle.law_obligations.specs.Places.{Place, named, rest, is_named, World, world, AbsOutcome}
use Rattle.law_obligations.specs.May.{AbsState, Kept, may}

abbrev pub family : Name → List Simple → Simple → Family
family name over value = record { name = name; over = over; value = value; is_abstract = false; at = 0 }

-- scalarset P and ordset I, undeclared; d : P; v : array P of boolean; x, y : I; n : 0..2; z : array 0..1 of 0..2; c : {red, green}
abbrev pub small : Numbered
small = record {
  sets = record { name = codes "P"; ordered = false; size = None } ∷ record { name = codes "I"; ordered = true; size = None } ∷ [];
  enums = (codes "red" ∷ codes "green" ∷ []) ∷ [];
  families = family (codes "d") [] (Set 0) ∷ family (codes "v") (Set 0 ∷ []) (Range 0 1) ∷ family (codes "x") [] (Set 1) ∷ family (codes "y") [] (Set 1)
      ∷ family (codes "n") [] (Range 0 2) ∷ family (codes "z") (Range 0 1 ∷ []) (Range 0 2) ∷ family (codes "c") [] (Enum 0) ∷ [];
  sizes = λ name. 5;
}

-- P with two classes and a rest, I with two classes and three gaps
abbrev pub small_world : World
small_world = world small (λ name. record { named = 2; rest = if bytes_eq name (codes "P") then beside.One else beside.Gaps })

-- the same with no class of P
abbrev pub world_of_rests : World
world_of_rests = world small (λ name. record { named = 0; rest = if bytes_eq name (codes "P") then beside.One else beside.Gaps })

abbrev pub p : ℕ → Value
p k = scalar (codes "P") k

abbrev pub i : ℕ → Value
i k = ordinal (codes "I") k

-- d, v at class 0 and v at any other class, x, y and n; z is 0 and c is red
abbrev pub state : Place → ℕ → ℕ → Place → Place → ℕ → AbsState
state d v w x y n zero at_indexes = d
state d v w x y n (suc zero) (named (scalar t zero) ∷ at_indexes) = named (number v)
state d v w x y n (suc zero) at_indexes = named (number w)
state d v w x y n (suc (suc zero)) at_indexes = x
state d v w x y n (suc (suc (suc zero))) at_indexes = y
state d v w x y n (suc (suc (suc (suc zero)))) at_indexes = named (number n)
state d v w x y n (suc (suc (suc (suc (suc zero))))) at_indexes = named (number 0)
state d v w x y n _ at_indexes = named (constant (codes "red"))

-- d and x, y at a rest and at the gaps 0 and 1; v is 1 at class 0 and 0 at class 1, n is 2
abbrev pub at_rests : AbsState
at_rests = state (rest (p 0)) 1 0 (rest (i 0)) (rest (i 1)) 2

-- the elements at numbers and classes are kept
abbrev pub all_kept : Kept
all_kept family indexes = list_all is_named indexes

-- the outcomes of an expression in this state, where variable 0 is bound to a place
abbrev pub outcomes : Place → FlatExpr → List AbsOutcome
outcomes bound e = may small_world all_kept at_rests e (bound ∷ [])

-- the numbers as outcomes
abbrev pub these : List ℕ → List AbsOutcome
these ns = map (λ n. Some (named (number n))) ns

abbrev pub signal : ℕ → FlatExpr
signal family = Read family [] 0

abbrev pub variable : FlatExpr
variable = Var 0 0

abbrev pub num : ℕ → FlatExpr
num k = Number k 0

-- `=` and `~=` of the rest of P with itself give 0 and 1; with a class they are certain
abbrev pub RestsCompare : Type 0
RestsCompare = (outcomes (named (p 0)) (Compare Equal (signal 0) (signal 0)) ≡ these (1 ∷ 0 ∷ []))
    × (outcomes (named (p 0)) (Compare Differ (signal 0) (signal 0)) ≡ these (0 ∷ 1 ∷ []))
    × (outcomes (named (p 0)) (Compare Equal (signal 0) variable) ≡ these (0 ∷ []))
    × (outcomes (named (p 0)) (Compare Differ variable (signal 0)) ≡ these (1 ∷ []))
    × (outcomes (named (p 0)) (Compare Equal variable variable) ≡ these (1 ∷ []))

-- gap 0 lies below class 0, which lies below gap 1, which lies below class 1; gap 0 with itself may be less, equal or greater
abbrev pub GapsCompare : Type 0
GapsCompare = (outcomes (named (i 0)) (Compare Less (signal 2) variable) ≡ these (1 ∷ []))
    × (outcomes (named (i 0)) (Compare Less variable (signal 2)) ≡ these (0 ∷ []))
    × (outcomes (named (i 0)) (Compare Less variable (signal 3)) ≡ these (1 ∷ []))
    × (outcomes (named (i 1)) (Compare Less (signal 3) variable) ≡ these (1 ∷ []))
    × (outcomes (named (i 1)) (Compare AtLeast (signal 3) variable) ≡ these (0 ∷ []))
    × (outcomes (named (i 0)) (Compare Less (signal 2) (signal 3)) ≡ these (1 ∷ []))
    × (outcomes (named (i 0)) (Compare Greater (signal 2) (signal 3)) ≡ these (0 ∷ []))
    × (outcomes (named (i 0)) (Compare Equal (signal 2) (signal 3)) ≡ these (0 ∷ []))
    × (outcomes (named (i 0)) (Compare Less (signal 2) (signal 2)) ≡ these (1 ∷ 0 ∷ []))
    × (outcomes (named (i 0)) (Compare AtMost (signal 2) (signal 2)) ≡ these (0 ∷ 1 ∷ []))
    × (outcomes (named (i 0)) (Compare Equal (signal 2) (signal 2)) ≡ these (1 ∷ 0 ∷ []))

-- `v[d]` with d at the rest reads as every value, `v` at class 0 as its own; `z[n]` with n outside 0..1 is Undefined
abbrev pub ReadsAtRests : Type 0
ReadsAtRests = (outcomes (named (p 0)) (Read 1 (signal 0 ∷ []) 0) ≡ these (0 ∷ 1 ∷ []))
    × (outcomes (named (p 0)) (Read 1 (variable ∷ []) 0) ≡ these (1 ∷ []))
    × (outcomes (named (p 0)) (Read 5 (signal 4 ∷ []) 0) ≡ None ∷ [])
    × (outcomes (named (p 0)) (Read 5 (num 1 ∷ []) 0) ≡ these (0 ∷ []))

-- `&[v[i] : i in P]` and `|[v[i] : i in P]`: one outcome at each class, and any part of those at the rest
abbrev pub Quantifiers : Type 0
Quantifiers = (outcomes (named (p 0)) (All (Read 1 (Var 1 0 ∷ []) 0) 1 (Set 0) 0) ≡ these (0 ∷ 0 ∷ 0 ∷ 0 ∷ []))
    × (outcomes (named (p 0)) (Any (Read 1 (Var 1 0 ∷ []) 0) 1 (Set 0) 0) ≡ these (1 ∷ 1 ∷ 1 ∷ 1 ∷ []))
    × (may small_world all_kept (state (rest (p 0)) 1 1 (rest (i 0)) (rest (i 1)) 2) (All (Read 1 (Var 1 0 ∷ []) 0) 1 (Set 0) 0) (named (p 0) ∷ []) ≡ these (1 ∷ 1 ∷ 0 ∷ 0 ∷ []))
    × (may world_of_rests all_kept at_rests (All (Read 1 (Var 0 0 ∷ []) 0) 0 (Set 0) 0) [] ≡ these (1 ∷ 1 ∷ 0 ∷ 0 ∷ []))
    × (may world_of_rests all_kept at_rests (Any (Read 1 (Var 0 0 ∷ []) 0) 0 (Set 0) 0) [] ≡ these (0 ∷ 1 ∷ 0 ∷ 1 ∷ []))

-- `in` with a listed set: its left part is chosen once
abbrev pub Memberships : Type 0
Memberships = (outcomes (named (p 0)) (Within (signal 4) (Listed (SpanOf (record { low = 0; high = 1 }) 0 ∷ []) 0)) ≡ these (0 ∷ []))
    × (outcomes (named (p 0)) (Within (signal 4) (Listed (One (num 0) ∷ One (num 2) ∷ []) 0)) ≡ these (1 ∷ []))
    × (outcomes (named (p 0)) (Within (signal 0) (Listed (One variable ∷ []) 0)) ≡ these (0 ∷ []))
    × (outcomes (named (p 0)) (Within (Read 1 (signal 0 ∷ []) 0) (Listed (One (num 0) ∷ One (num 1) ∷ []) 0)) ≡ these (1 ∷ 1 ∷ []))

-- numbers above 1 in logic, sums above 511, a remainder, a choice, and constants
abbrev pub Operators : Type 0
Operators = (outcomes (named (p 0)) (And (signal 4 ∷ num 1 ∷ [])) ≡ None ∷ [])
    × (outcomes (named (p 0)) (And (signal 4 ∷ num 0 ∷ [])) ≡ these (0 ∷ []))
    × (outcomes (named (p 0)) (Implies (Compare Equal (signal 0) (signal 0) ∷ num 0 ∷ [])) ≡ these (0 ∷ 1 ∷ []))
    × (outcomes (named (p 0)) (Not (signal 0) 0) ≡ None ∷ [])
    × (outcomes (named (p 0)) (Sum (signal 4) (roll-FlatSigned (record { minus = false; of = num 510 }) ∷ [])) ≡ None ∷ [])
    × (outcomes (named (p 0)) (Sum (signal 4) (roll-FlatSigned (record { minus = true; of = num 1 }) ∷ [])) ≡ these (1 ∷ []))
    × (outcomes (named (p 0)) (Modulo (signal 4) 2 0) ≡ these (0 ∷ []))
    × (outcomes (named (p 0)) (Choose (Compare Equal (signal 0) (signal 0)) (signal 4) (signal 0)) ≡ Some (named (number 2)) ∷ Some (rest (p 0)) ∷ [])
    × (outcomes (named (p 0)) (Choose (signal 4) (num 0) (num 1)) ≡ None ∷ [])
    × (outcomes (named (p 0)) (Compare Equal (signal 6) (Constant 0 1 0)) ≡ these (0 ∷ []))
    × (outcomes (named (p 0)) (Compare Equal (signal 6) (Constant 0 0 0)) ≡ these (1 ∷ []))
