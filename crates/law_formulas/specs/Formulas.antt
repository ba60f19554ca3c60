-- Claims over several times: their formulas, and when a formula holds in a finite run (linear temporal logic over finite traces, De Giacomo and Vardi, IJCAI 2013).
use Rattle.std.specs.Prelude.{◌≡◌, ◌<◌, ◌≤◌, ℕ, zero, suc, List, [], ◌∷◌, ◌⊎◌, length, Option, Some, None, All, if◌then◌else◌, nat_eq}
use Rattle.smv_core.specs.Values.{Value, number, Sizes}
use Rattle.smv_core.specs.FlatOrder.{TextDesign, design_of, Claimed}
use Rattle.smv_core.specs.Outcome.{State, Scene, Bindings, outcome}
use Rattle.smv_core.specs.Allowed.{scene_at}
use Rattle.smv_core.specs.Sound.{ProofUnit, map_of, claim_of, units, instances, bound, AtEachTime, Holds, IsRun, AreSizes}
use Rattle.smv_core.specs.declared.tree.Text.{Text}
use Rattle.smv_core.specs.declared.tree.Expr.{Expr, Number}

-- an expression; `X (f)`, with the offset of its X; `if (c) f`; `W (p, q)`: a part of the safety formulas of linear temporal logic (Manna and Pnueli 1992)
pub data Formula : Type 0 where
  now : Expr → Formula
  next : ℕ → Formula → Formula
  when : Expr → Formula → Formula
  weak : Expr → Expr → Formula

module _ (scene : Scene) (b : Bindings) where
  -- an expression holds in a state where its outcome is 1
  abbrev pub Is : Expr → State → Type 0
  Is e s = outcome scene s e b ≡ Some (number 1)

  -- a condition is out where its outcome is 0; Undefined does not put it out
  abbrev pub IsOut : Expr → State → Type 0
  IsOut c s = outcome scene s c b ≡ Some (number 0)

  -- the expression holds so many states on
  abbrev pub At : Expr → List State → ℕ → Type 0
  At e [] k = ⊥
  At e (s ∷ run) zero = Is e s
  At e (s ∷ run) (suc k) = At e run k

  -- at each time the first holds, unless the second has held by then (the weak until, or unless, of Manna and Pnueli 1992)
  abbrev pub HoldsUnless : Expr → Expr → List State → Type 0
  HoldsUnless p q run = (u : ℕ) → u < length run → At p run u ⊎ ((v : ℕ) × (v ≤ u) × At q run v)

  -- the formula holds at the first of these states, behind which the others come; behind the last state everything holds (the weak next of finite traces)
  abbrev pub HoldsFrom : Formula → List State → Type 0
  HoldsFrom (now e) [] = Unit {0}
  HoldsFrom (now e) (s ∷ run) = Is e s
  HoldsFrom (next at f) [] = Unit {0}
  HoldsFrom (next at f) (s ∷ run) = HoldsFrom f run
  HoldsFrom (when c f) [] = Unit {0}
  HoldsFrom (when c f) (s ∷ run) = IsOut c s ⊎ HoldsFrom f (s ∷ run)
  HoldsFrom (weak p q) run = HoldsUnless p q run

  -- it holds at each time
  abbrev pub AlwaysHolds : Formula → List State → Type 0
  AlwaysHolds f [] = Unit {0}
  AlwaysHolds f (s ∷ run) = HoldsFrom f (s ∷ run) × AlwaysHolds f run

-- A text whose claims are formulas. A claim whose formula is an expression has this as its body; each other one has the number 1 at the offset of its formula, by which the list, in the order of the text, gives the formula.
pub record FormulaText : Type 0 where
  pub text : Text
  pub formulas : List (ℕ × Formula)

-- what stands at this offset in a list
abbrev pub at_place : {A : Type 0} → List (ℕ × A) → ℕ → Option A
at_place [] at = None
at_place ((place, x) ∷ more) at = if nat_eq place at then Some x else at_place more at

-- what a list has for the body of a claim
abbrev pub of_body : {A : Type 0} → List (ℕ × A) → Expr → Option A
of_body list (Number value at) = at_place list at
of_body list _ = None

-- a formula, or else the body itself
abbrev pub or_body : Expr → Option Formula → Formula
or_body body (Some f) = f
or_body body None = now body

-- the formula of a claim
abbrev pub formula_of : List (ℕ × Formula) → Claimed → Formula
formula_of formulas c = or_body c.body (of_body formulas c.body)

module _ (d : TextDesign) (formulas : List (ℕ × Formula)) (sizes : Sizes) where
  -- an instance of a unit holds along a run: a map's at each time, a claim's where its formula holds at each time
  abbrev pub HoldsAlong : ProofUnit → List Value → List State → Type 0
  HoldsAlong (map_of layer f) vs run = AtEachTime (Holds d sizes (map_of layer f) vs) None run
  HoldsAlong (claim_of c) vs run = AlwaysHolds (scene_at d sizes c.instance) (bound c.params vs []) (formula_of formulas c) run

-- for all sizes and each run, each map and each formula holds at each time
abbrev pub IsSoundOverTimes : FormulaText → Type 0
IsSoundOverTimes ft = let d = design_of ft.text in
    (sizes : Sizes) → AreSizes ft.text sizes → (run : List State) → IsRun d sizes run →
    All (λ unit. All (λ vs. HoldsAlong d ft.formulas sizes unit vs run) (instances d sizes unit)) (units d)
