-- What definitions may give, on definitions that are made of lists and values.
use Rattle.std.proofs.Common.{◌≡◌, ℕ, List, [], ◌∷◌, map, Option, None, refl, ap, ◌∙◌}
use Rattle.std.specs.List.{flat_map}
use Rattle.smv_core.specs.declared.flat.Simple.{Simple}
use Rattle.smv_core.specs.declared.flat.FlatExpr.{FlatExpr}
use Rattle.smv_core.specs.declared.flat.DefBody.{DefBody, Nothing, Assign, If, First, First', Forall, Row_of-DefBody, end_of-DefBody, more_of-DefBody, items-the_row-DefBody, items_hidden-the_row-DefBody-1}
use Rattle.law_obligations.specs.Sets.{one_of_each, pairs}
use Rattle.law_obligations.specs.Places.{Place, World, places_in, bind_place}
use Rattle.law_obligations.specs.May.{AbsState, Kept, seen, may}
use Rattle.law_obligations.specs.Results.{first_result, taken, assigned, results, results_each}
use Rattle.law_obligations.proofs.Computing.{computing}
use mathlib.Core.Former.{Count}

module _ (w : World) (kept : Kept) (a : AbsState) (indexes : List Place) {X : Type 0} (everything : X) (right : FlatExpr → List Place → X) where
  -- the results of a part
  abbrev part : DefBody → List Place → List (Option X)
  part def b = results w kept a indexes everything right def b

  pub results-Nothing : (b : List Place) → part Nothing b ≡ None ∷ []
  results-Nothing b = refl

  pub results-Assign : (left : List FlatExpr) (value : FlatExpr) (place at : ℕ) (b : List Place) →
      part (Assign left value place at) b ≡ map (λ us. assigned w kept a indexes everything right us value b) (one_of_each (map (λ e. may w kept a e b) left))
  results-Assign left value place at b = refl

  pub results-If : (cond : FlatExpr) (x y : DefBody) (b : List Place) → part (If cond x y) b ≡ flat_map (λ u. pairs (λ r q. taken everything (seen u) r q ∷ []) (part x b) (part y b)) (may w kept a cond b)
  unfolding computing
  results-If cond x y b = refl

  parts-row : (m : _) (row : Row_of-DefBody m) (b : List Place) → results_each w kept a indexes everything right row b ≡ map (λ d. part d b) (items-the_row-DefBody m row)
  unfolding computing
  parts-row m end_of-DefBody b = refl
  parts-row m (more_of-DefBody d rest) b = ap (λ l. part d b ∷ l) (parts-row _ rest b)

  abbrev parts_in : DefBody → (m : Count) × Row_of-DefBody m
  parts_in (First' shape row) = (_, row)
  parts_in _ = (_, end_of-DefBody)

  pub results-First : (parts : List DefBody) (b : List Place) → part (First parts) b ≡ map first_result (one_of_each (map (λ d. part d b) parts))
  results-First parts b = ap (λ l. map first_result (one_of_each l)) (parts-row (parts_in (First parts)).0 (parts_in (First parts)).1 b ∙ ap (map (λ d. part d b)) (items_hidden-the_row-DefBody-1 parts))

  pub results-Forall : (var : ℕ) (over : Simple) (body : DefBody) (b : List Place) → part (Forall var over body) b ≡ map first_result (one_of_each (map (λ p. part body (bind_place b var p)) (places_in w over)))
  unfolding computing
  results-Forall var over body b = refl
