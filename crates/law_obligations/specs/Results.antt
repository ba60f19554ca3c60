-- What a definition may give one element in a case: each result that is possible. A result is Nothing or what one right side gives, seen
-- as it is asked for: as what the right side may allow, or as what it allows for certain.
use Rattle.std.specs.Prelude.{List, [], ◌∷◌, map, flat_map, zip, is_none, Option, Some, None, Bool, false, not, if◌then◌else◌}
use Rattle.std.specs.List.{list_any}
use Rattle.smv_core.specs.Values.{Truth}
use Rattle.smv_core.specs.Outcome.{branch}
use Rattle.smv_core.specs.declared.flat.FlatExpr.{FlatExpr}
use Rattle.smv_core.specs.declared.flat.DefBody.{DefBody, Nothing, Assign, If', First', Forall', Row_of-DefBody, end_of-DefBody, more_of-DefBody}
use Rattle.law_obligations.specs.Sets.{one_of_each, pairs}
use Rattle.law_obligations.specs.Places.{Place, same_place, World, places_in, AbsOutcome, bind_place}
use Rattle.law_obligations.specs.May.{AbsState, Kept, seen, may}

-- the first, unless it is Nothing
abbrev pub first_of : {X : Type 0} → Option X → Option X → Option X
first_of None other = other
first_of (Some x) other = Some x

-- the first result that is not Nothing
abbrev pub first_result : {X : Type 0} → List (Option X) → Option X
first_result [] = None
first_result (r ∷ rs) = first_of r (first_result rs)

-- under a condition that is no truth value everything is open, unless neither branch has a result
abbrev pub unless_both_nothing : {X : Type 0} → X → Option X → Option X → Option X
unless_both_nothing everything None None = None
unless_both_nothing everything _ _ = Some everything

-- the result of the branch that is taken
abbrev pub taken : {X : Type 0} → X → Truth → Option X → Option X → Option X
taken everything cond left right = branch (unless_both_nothing everything left right) cond left right

-- an index that is some place other than the element's, which is no rest
abbrev pub is_elsewhere : AbsOutcome → Place → Bool
is_elsewhere (Some p) q = not (same_place p q)
is_elsewhere None q = false

-- for the element of these indexes; `everything` is what every value of its type gives, and `right` what a right side gives
module _ (w : World) (kept : Kept) (a : AbsState) (indexes : List Place) {X : Type 0} (everything : X) (right : FlatExpr → List Place → X) where
  -- an assignment: Nothing for another element, everything where the element cannot be told, and else its right side
  abbrev pub assigned : List AbsOutcome → FlatExpr → List Place → Option X
  assigned us value b =
      if list_any (λ (u, q). is_elsewhere u q) (zip us indexes) then None
      else if list_any is_none us then Some everything
      else Some (right value b)

  abbrev mutual
    -- every choice of indexes, conditions and results of the parts
    pub results : DefBody → List Place → List (Option X)
    results Nothing b = None ∷ []
    results (Assign left value place at) b = map (λ us. assigned us value b) (one_of_each (map (λ e. may w kept a e b) left))
    results (If' cond l (more_of-DefBody left end_of-DefBody) r (more_of-DefBody right' end_of-DefBody)) b =
        flat_map (λ u. pairs (λ x y. taken everything (seen u) x y ∷ []) (results left b) (results right' b)) (may w kept a cond b)
    results (First' shape parts) b = map first_result (one_of_each (results_each parts b))
    results (Forall' var over shape (more_of-DefBody body end_of-DefBody)) b =
        map first_result (one_of_each (map (λ p. results body (bind_place b var p)) (places_in w over)))

    pub results_each : {m : _} → Row_of-DefBody m → List Place → List (List (Option X))
    results_each end_of-DefBody b = []
    results_each (more_of-DefBody part others) b = results part b ∷ results_each others b
