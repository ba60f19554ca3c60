-- Where an expression stands.
use Rattle.std.specs.Prelude.{ℕ, List, [], ◌∷◌}
use Rattle.smv_core.specs.declared.flat.FlatExpr.{FlatExpr}
use Rattle.law_designs.specs.SetOperands.{first_at}

unfoldable pub place : FlatExpr → ℕ
place e = first_at e

abbrev pub first_place : List FlatExpr → ℕ
first_place [] = 0
first_place (e ∷ es) = place e
