-- The values of scalarsets exchanged throughout: what is exchanged with them, and what stays as it was.
use Rattle.std.specs.Prelude.{◌≡◌, ◌<◌, ℕ, List, [], ◌∷◌, map, Some, None, option_map, Contains}
use Rattle.smv_core.specs.Values.{Name, Path, Value, number, constant, scalar, ordinal, Sizes, Outcome}
use Rattle.smv_core.specs.Outcome.{State, Bindings}
use Rattle.smv_core.specs.Walk.{Element, Walk}

-- a new number for each value of each scalarset: f and g undo each other and keep to the numbers below the size (symmetry of scalarsets, McMillan, CAV 1998)
pub record Exchanges (sizes : Sizes) (f g : Name → ℕ → ℕ) : Type 0 where
  pub there_back : (t : Name) (n : ℕ) → f t (g t n) ≡ n
  pub back_there : (t : Name) (n : ℕ) → g t (f t n) ≡ n
  pub keeps : (t : Name) (n : ℕ) → n < sizes t → f t n < sizes t
  pub keeps_back : (t : Name) (n : ℕ) → n < sizes t → g t n < sizes t

module _ (f : Name → ℕ → ℕ) where
  -- each value of a scalarset under its new number, and every other value as it is
  abbrev pub exchanged : Value → Value
  exchanged (scalar t n) = scalar t (f t n)
  exchanged (number n) = number n
  exchanged (constant a) = constant a
  exchanged (ordinal t n) = ordinal t n

  -- Undefined stays Undefined
  abbrev pub exchanged_outcome : Outcome → Outcome
  exchanged_outcome u = option_map exchanged u

  -- the bound variables at their exchanged values
  abbrev pub exchanged_bindings : Bindings → Bindings
  exchanged_bindings [] = []
  exchanged_bindings ((name, v) ∷ b) = (name, exchanged v) ∷ exchanged_bindings b

  -- the element at the exchanged indexes
  abbrev pub exchanged_element : Element → Element
  exchanged_element x = record { path = x.path; indexes = map exchanged x.indexes }

  -- the second state gives each exchanged element the exchanged value
  abbrev pub AreExchangedStates : State → State → Type 0
  AreExchangedStates s t = (p : Path) (vs : List Value) → t p (map exchanged vs) ≡ exchanged (s p vs)

  -- the second list has the exchanged values of the first, and no others
  abbrev pub AreExchangedValues : List Value → List Value → Type 0
  AreExchangedValues vs ws = ((v : Value) → Contains vs v → Contains ws (exchanged v)) × ((w : Value) → Contains ws w → (v : Value) × Contains vs v × (exchanged v ≡ w))

  -- both give Nothing, or both a set, the second with the exchanged values of the first
  abbrev pub AreExchangedWalks : Walk → Walk → Type 0
  AreExchangedWalks None None = Unit {0}
  AreExchangedWalks (Some vs) (Some ws) = AreExchangedValues vs ws
  AreExchangedWalks _ _ = ⊥
