-- What bounds promise.
use Rattle.std.specs.Prelude.{◌≡◌, ◌≤◌, ℕ, List, [], ◌∷◌, slice_get, Some}
use Rattle.smv_core.specs.Values.{Value, number, truth}
use Rattle.smv_core.specs.FlatMeaning.{FlatBindings, FlatState, Numbered, flat_outcome, values_in}
use Rattle.smv_core.specs.declared.flat.Simple.{Simple}
use Rattle.smv_core.specs.declared.flat.FlatExpr.{FlatExpr}
use Rattle.law_obligations.specs.Sets.{Has}
use Rattle.law_obligations.specs.Pictures.{IsState}
use Rattle.smv_look_bounds.specs.declared.numbers.Bounds.{Bounds}
use Rattle.smv_look_bounds.specs.Narrowing.{Given}
use Rattle.smv_look_bounds.specs.Bounds.{bounds}

-- each variable that is bound has a value of its type
abbrev pub AreBound : Numbered → List Simple → FlatBindings → Type 0
AreBound n vars b = (k : ℕ) (over : Simple) (v : Value) → slice_get vars k ≡ Some over → slice_get b k ≡ Some v → Has (values_in n over) v

-- each condition around comes out as it is taken, as 1 or as 0
abbrev pub AreSo : Numbered → FlatState → FlatBindings → List Given → Type 0
AreSo n s b [] = Unit {0}
AreSo n s b (g ∷ givens) = (truth (flat_outcome n s g.cond b) ≡ Some g.holds) × AreSo n s b givens

-- a number is within bounds
abbrev pub IsWithin : Bounds → ℕ → Type 0
IsWithin within k = (within.low ≤ k) × (k ≤ within.high)

-- at all sizes, in all states and under all bindings in which the conditions around are so, a number that an expression comes out as is within its bounds
abbrev pub BoundsHold : Type 0
BoundsHold = (n : Numbered) (s : FlatState) (vars : List Simple) (b : FlatBindings) (givens : List Given) → IsState n s → AreBound n vars b → AreSo n s b givens →
    (e : FlatExpr) (within : Bounds) (k : ℕ) → bounds n.families vars givens e ≡ Some within → flat_outcome n s e b ≡ Some (number k) → IsWithin within k
