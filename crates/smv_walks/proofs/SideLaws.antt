-- Right sides, as results are asked for.
use Rattle.std.proofs.Common.{◌≡◌, ℕ, List, Bool, not, sym, ap, ◌∙◌}
use Rattle.smv_core.specs.declared.flat.FlatExpr.{FlatExpr}
use Rattle.smv_spots.specs.declared.spots.Spot.{Spot}
use Rattle.smv_problem.specs.declared.problem.Problem.{Problem}
use Rattle.smv_cells.specs.declared.cells.Cell.{Cell}
use Rattle.smv_targets.specs.declared.targets.Target.{Target}
use Rattle.smv_targets.specs.Targets.{IsSo}
use Rattle.smv_sides.specs.Sides.{may_allowed, must_allowed}
use Rattle.smv_walks.specs.declared.walks.Way.{Way}
use Rattle.smv_walks.specs.declared.walks.Way.TheVariants.{May, Must}
use Rattle.smv_walks.specs.Walks.{right_of}

module _ {S C : Type 0} (holds : S → C → (ℕ → Bool) → Bool) (s0 s1 : S) (problem : Problem) (cells : List (Cell C)) (t : Target C) (way : Way) (b : List Spot) (value : FlatExpr) where
  pub may_right : (r : C) → way ≡ May → IsSo holds s0 s1 problem cells t (may_allowed b value) r → IsSo holds s0 s1 problem cells t (right_of way b value) r
  unfolding IsSo may_allowed right_of
  may_right r e h z aim a = h z aim a ∙ ap (λ way. right_of way b value z a) (sym e)

  pub must_right : (s2 : S) (c r : C) → way ≡ Must → IsSo holds s0 s1 problem cells t (must_allowed b value) c → ((a : ℕ → Bool) → holds s2 r a ≡ not (holds s1 c a)) → IsSo holds s0 s2 problem cells t (right_of way b value) r
  unfolding IsSo must_allowed right_of
  must_right s2 c r e h made z aim a = made a ∙ (ap not (h z aim a) ∙ ap (λ way. right_of way b value z a) (sym e))
