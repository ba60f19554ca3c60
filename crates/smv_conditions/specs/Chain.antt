-- Chains of operators.
use Rattle.std.specs.Prelude.{List, [], ◌∷◌}
use Rattle.smv_conditions.specs.declared.chances.Chances.{Chances}
use Rattle.smv_conditions.specs.declared.chances.Join.{Join}
use Rattle.smv_conditions.specs.declared.chances.Join.TheVariants as join
use Rattle.smv_conditions.specs.Chances.{AreMade}
use Rattle.law_obligations.specs.Mix.{Mix, and_mix, or_mix, implies_mix, and_all, or_all, implies_all}

-- two parts of a chain, and all of them
abbrev pub joined : Join → Mix → Mix → Mix
joined join.And m n = and_mix m n
joined join.Or m n = or_mix m n
joined join.Implies m n = implies_mix m n

abbrev pub chain : Join → List Mix → Mix
chain join.And ms = and_all ms
chain join.Or ms = or_all ms
chain join.Implies ms = implies_all ms

abbrev pub AllMade : {C : Type 0} → (C → Type 0) → List (Chances C) → Type 0
AllMade IsMade [] = Unit {0}
AllMade IsMade (x ∷ xs) = AreMade IsMade x × AllMade IsMade xs
