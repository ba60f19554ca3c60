-- A definition has a possible result wherever each expression has an outcome and each type a place.
use Rattle.std.proofs.Common.{◌≡◌, ℕ, List, [], ◌∷◌, map, true, ◌&&◌, refl, ap, ◌∙◌}
use Rattle.std.specs.List.{list_all, flat_map}
use Rattle.smv_core.specs.declared.flat.FlatExpr.{FlatExpr}
use Rattle.smv_core.specs.declared.flat.DefBody.{DefBody, Nothing, Assign, If', First', Forall', Row_of-DefBody, end_of-DefBody, more_of-DefBody}
use Rattle.law_obligations.specs.Sets.{one_of_each, pairs}
use Rattle.law_obligations.specs.Places.{Place, World, places_in, bind_place}
use Rattle.law_obligations.specs.May.{AbsState, Kept, seen, may}
use Rattle.law_obligations.specs.Results.{first_result, taken, assigned, results, results_each}
use Rattle.law_obligations.specs.Mix.{is_there}
use Rattle.law_obligations.proofs.MixLaws.{there-map, there-append, there-choices}

-- what is made of each member of a list with a member
there-flat_map : {X Y : Type 0} (f : X → List Y) (xs : List X) → is_there xs ≡ true → ((x : X) → is_there (f x) ≡ true) → is_there (flat_map f xs) ≡ true
there-flat_map f [] h each = h
there-flat_map f (x ∷ xs) h each = there-append (f x) (flat_map f xs) (each x)

there-pairs : {X Y Z : Type 0} (f : X → Y → Z) (xs : List X) (ys : List Y) → is_there xs ≡ true → is_there ys ≡ true → is_there (pairs (λ x y. f x y ∷ []) xs ys) ≡ true
there-pairs f xs ys h k = there-flat_map (λ x. flat_map (λ y. f x y ∷ []) ys) xs h (λ x. there-flat_map (λ y. f x y ∷ []) ys k (λ y. refl))

all-map : {X Y : Type 0} (f : X → List Y) (xs : List X) → ((x : X) → is_there (f x) ≡ true) → list_all is_there (map f xs) ≡ true
all-map f [] each = refl
all-map f (x ∷ xs) each = ap (λ b. b && list_all is_there (map f xs)) (each x) ∙ all-map f xs each

module _ (w : World) (kept : Kept) (a : AbsState) (indexes : List Place) {X : Type 0} (everything : X) (right : FlatExpr → List Place → X) (filled : (e : FlatExpr) (b : List Place) → is_there (may w kept a e b) ≡ true) where
  pub left-there : (left : List FlatExpr) (b : List Place) → list_all is_there (map (λ e. may w kept a e b) left) ≡ true
  left-there left b = all-map (λ e. may w kept a e b) left (λ e. filled e b)

  mutual
    pub results-there : (part : DefBody) (b : List Place) → is_there (results w kept a indexes everything right part b) ≡ true
    results-there Nothing b = refl
    results-there (Assign left value place at) b =
        there-map (λ us. assigned w kept a indexes everything right us value b) (one_of_each (map (λ e. may w kept a e b) left)) ∙ there-choices (map (λ e. may w kept a e b) left) (left-there left b)
    results-there (If' cond l (more_of-DefBody above end_of-DefBody) r (more_of-DefBody below end_of-DefBody)) b =
        there-flat_map (λ u. pairs (λ x y. taken everything (seen u) x y ∷ []) (results w kept a indexes everything right above b) (results w kept a indexes everything right below b)) (may w kept a cond b) (filled cond b)
        (λ u. there-pairs (λ x y. taken everything (seen u) x y) (results w kept a indexes everything right above b) (results w kept a indexes everything right below b) (results-there above b) (results-there below b))
    results-there (First' shape parts) b = there-map first_result (one_of_each (results_each w kept a indexes everything right parts b)) ∙ there-choices (results_each w kept a indexes everything right parts b) (each-there parts b)
    results-there (Forall' var over shape (more_of-DefBody body end_of-DefBody)) b =
        there-map first_result (one_of_each (map (λ p. results w kept a indexes everything right body (bind_place b var p)) (places_in w over)))
        ∙ there-choices (map (λ p. results w kept a indexes everything right body (bind_place b var p)) (places_in w over)) (all-map (λ p. results w kept a indexes everything right body (bind_place b var p)) (places_in w over) (λ p. results-there body (bind_place b var p)))

    each-there : {m : _} (parts : Row_of-DefBody m) (b : List Place) → list_all is_there (results_each w kept a indexes everything right parts b) ≡ true
    each-there end_of-DefBody b = refl
    each-there (more_of-DefBody part others) b = ap (λ c. c && list_all is_there (results_each w kept a indexes everything right others b)) (results-there part b) ∙ each-there others b

  pub all-there : (parts : List DefBody) (b : List Place) → list_all is_there (map (λ part. results w kept a indexes everything right part b) parts) ≡ true
  all-there parts b = all-map (λ part. results w kept a indexes everything right part b) parts (λ part. results-there part b)

  pub over-there : (body : DefBody) (b : List Place) (var : ℕ) (ps : List Place) → list_all is_there (map (λ p. results w kept a indexes everything right body (bind_place b var p)) ps) ≡ true
  over-there body b var ps = all-map (λ p. results w kept a indexes everything right body (bind_place b var p)) ps (λ p. results-there body (bind_place b var p))
