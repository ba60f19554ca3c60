-- Placings by the values of the classes, in the order of the classes.
use Rattle.std.specs.Prelude.{◌≡◌, ◌<◌, ℕ, suc, List, [], ◌∷◌, Option, Some, None, option_map, if◌then◌else◌, nat_eq, nat_lt}
use Rattle.smv_core.specs.declared.abstract_type.Rest.{Rest}
use Rattle.smv_core.specs.declared.abstract_type.Rest.TheVariants as beside
use Rattle.law_obligations.specs.Pictures.{Spot, class, other}

-- the first place of a number in a list
abbrev pub place_in : ℕ → List ℕ → Option ℕ
place_in k [] = None
place_in k (x ∷ xs) = if nat_eq k x then Some 0 else option_map (λ c. suc c) (place_in k xs)

-- a class, or the rest of a scalarset
abbrev pub or_rest : Option ℕ → Spot
or_rest (Some c) = class c
or_rest None = other 0

-- in a scalarset whose classes have these values, all other values are at the rest
abbrev pub spot_by : List ℕ → ℕ → Spot
spot_by values k = or_rest (place_in k values)

-- of an ordset whose classes from number g on have these values: any other value is in the gap between the classes around it
abbrev pub spot_from : ℕ → List ℕ → ℕ → Spot
spot_from g [] k = other g
spot_from g (x ∷ xs) k = if nat_eq k x then class g else if nat_lt k x then other g else spot_from (suc g) xs k

abbrev pub spot_between : List ℕ → ℕ → Spot
spot_between values k = spot_from 0 values k

-- no number twice
abbrev pub AreDistinct : List ℕ → Type 0
AreDistinct [] = Unit {0}
AreDistinct (x ∷ xs) = (place_in x xs ≡ None) × AreDistinct xs

-- each below the size
abbrev pub AreBelow : ℕ → List ℕ → Type 0
AreBelow size [] = Unit {0}
AreBelow size (x ∷ xs) = (x < size) × AreBelow size xs

-- each below the next, and all below the size
abbrev pub AreRising : ℕ → List ℕ → Type 0
AreRising size [] = Unit {0}
AreRising size (x ∷ []) = x < size
AreRising size (x ∷ y ∷ xs) = (x < y) × AreRising size (y ∷ xs)

-- there is one rest, or no value is left beside the classes
abbrev pub HasRoom : Rest → ℕ → List ℕ → Type 0
HasRoom beside.One size values = Unit {0}
HasRoom beside.None size values = (k : ℕ) → k < size → place_in k values ≡ None → ⊥
HasRoom beside.Gaps size values = ⊥

-- where the classes have these values, each value has its class
abbrev pub AreIn : List ℕ → List ℕ → List ℕ → Type 0
AreIn values [] [] = Unit {0}
AreIn values (v ∷ vs) (c ∷ cs) = (spot_by values v ≡ class c) × AreIn values vs cs
AreIn values _ _ = ⊥
