-- Worked right sides and definitions, in the small case of the worked expressions.
use Rattle.std.specs.Prelude.{◌≡◌, ℕ, List, [], ◌∷◌, map, Option, Some, None, Bool, true, false}
use Rattle.smv_core.specs.declared.tree.Op.TheVariants.{Equal, AtLeast}
use Rattle.smv_core.specs.declared.flat.Simple.{Simple}
use Rattle.smv_core.specs.declared.flat.Simple.TheVariants.{Range, Set}
use Rattle.smv_core.specs.declared.flat.FlatExpr.{FlatExpr, Number, Read, Var, Compare, Choose, List as Listed, Each}
use Rattle.smv_core.specs.declared.flat.FlatMember.{FlatMember, One}
use Rattle.smv_core.specs.declared.flat.DefBody.{DefBody, Nothing, Assign, If, First, Forall}
use Rattle.law_obligations.specs.Places.{Place, named, places_in}
use Rattle.law_obligations.specs.Right.{may_allow, must_allow}
use Rattle.law_obligations.specs.Results.{results}
use Rattle.worked_obligations.specs.Worked.{small_world, all_kept, at_rests, p, signal, variable, num}

-- what a right side may allow, and what it allows for certain, at each place of the target's type in turn
abbrev pub BothWays : Simple → FlatExpr → List Bool → List Bool → Type 0
BothWays t e may must =
    (map (may_allow small_world all_kept at_rests (places_in small_world t) e (named (p 0) ∷ [])) (places_in small_world t) ≡ may)
    × (map (must_allow small_world all_kept at_rests (places_in small_world t) e (named (p 0) ∷ [])) (places_in small_world t) ≡ must)

abbrev pub one : FlatExpr → FlatMember
one e = One e

-- `d = d` with d at the rest, which is 0 or 1
abbrev pub unknown : FlatExpr
unknown = Compare Equal (signal 0) (signal 0)

abbrev pub bit_type : Simple
bit_type = Range 0 1

-- targets of 0..1: `0`; `n`, which is 2; `d = d`; `{0, n}`; `{0, d = d}`; `d = d ? 0 : 0`; `n ? 0 : 0`
abbrev pub BitTargets : Type 0
BitTargets = BothWays bit_type (num 0) (true ∷ false ∷ []) (true ∷ false ∷ [])
    × BothWays bit_type (signal 4) (true ∷ true ∷ []) (true ∷ true ∷ [])
    × BothWays bit_type unknown (true ∷ true ∷ []) (false ∷ false ∷ [])
    × BothWays bit_type (Listed (one (num 0) ∷ one (signal 4) ∷ []) 0) (true ∷ true ∷ []) (true ∷ true ∷ [])
    × BothWays bit_type (Listed (one (num 0) ∷ one unknown ∷ []) 0) (true ∷ true ∷ []) (true ∷ false ∷ [])
    × BothWays bit_type (Choose unknown (num 0) (num 0)) (true ∷ false ∷ []) (true ∷ false ∷ [])
    × BothWays bit_type (Choose (signal 4) (num 0) (num 0)) (true ∷ true ∷ []) (true ∷ true ∷ [])

-- targets of P, whose places are its two classes and the rest: `d`, which is at the rest; the value at class 0; `{j : j in P}`; `{j : j in P, v[j] = 1}`, which v has at class 0, has not at class 1 and may have at the rest
abbrev pub SetTargets : Type 0
SetTargets = BothWays (Set 0) (signal 0) (false ∷ false ∷ true ∷ []) (false ∷ false ∷ false ∷ [])
    × BothWays (Set 0) variable (true ∷ false ∷ false ∷ []) (true ∷ false ∷ false ∷ [])
    × BothWays (Set 0) (Each 1 (Set 0) None 0) (true ∷ true ∷ true ∷ []) (true ∷ true ∷ true ∷ [])
    × BothWays (Set 0) (Each 1 (Set 0) (Some (Compare Equal (Read 1 (Var 1 0 ∷ []) 0) (num 1))) 0) (true ∷ false ∷ true ∷ []) (true ∷ false ∷ false ∷ [])

-- `{j : j in 0..5, j >= 4}`, whose members are outside 0..1, and `{j : j in 0..1, j >= 4}`, which has none
abbrev pub OutsideTargets : Type 0
OutsideTargets = BothWays bit_type (Each 1 (Range 0 5) (Some (Compare AtLeast (Var 1 0) (num 4))) 0) (true ∷ true ∷ []) (true ∷ true ∷ [])
    × BothWays bit_type (Each 1 (Range 0 1) (Some (Compare AtLeast (Var 1 0) (num 4))) 0) (true ∷ true ∷ []) (true ∷ true ∷ [])

-- a right side that is a number, to tell assignments apart; everything is 9
abbrev pub told : FlatExpr → List Place → ℕ
told (Number k at) b = k
told e b = 8

-- the possible results of a definition for the element at class 0
abbrev pub results_at_0 : DefBody → List (Option ℕ)
results_at_0 def = results small_world all_kept at_rests (named (p 0) ∷ []) 9 told def (named (p 0) ∷ [])

-- for v[#0]: `v[k] := 1` at k = #0; `v[d] := 1` with d at the rest; under `if (d = d)`; after a statement that may give 1; and `forall (k in P) v[k] := 1`
abbrev pub Assignments : Type 0
Assignments = (results_at_0 (Assign (variable ∷ []) (num 1) 0 0) ≡ Some 1 ∷ [])
    × (results_at_0 (Assign (signal 0 ∷ []) (num 1) 0 0) ≡ None ∷ [])
    × (results_at_0 (If unknown (Assign (variable ∷ []) (num 1) 0 0) Nothing) ≡ Some 1 ∷ None ∷ [])
    × (results_at_0 (First (If unknown (Assign (variable ∷ []) (num 1) 0 0) Nothing ∷ Assign (variable ∷ []) (num 2) 0 0 ∷ [])) ≡ Some 1 ∷ Some 2 ∷ [])
    × (results_at_0 (If (signal 4) (Assign (variable ∷ []) (num 1) 0 0) Nothing) ≡ Some 9 ∷ [])
    × (results_at_0 (If (signal 4) Nothing Nothing) ≡ None ∷ [])
    × (results_at_0 (Forall 1 (Set 0) (Assign (Var 1 0 ∷ []) (num 1) 0 0)) ≡ Some 1 ∷ [])
    × (results small_world all_kept at_rests (named (p 1) ∷ []) 9 told (Assign (variable ∷ []) (num 1) 0 0) (named (p 0) ∷ []) ≡ None ∷ [])
