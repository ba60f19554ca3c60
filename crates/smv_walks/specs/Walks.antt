-- What is asked of the possible results of a definition.
use Rattle.std.specs.Prelude.{◌≡◌, ℕ, List, ◌++◌, map, Option, Bool, not}
use Rattle.smv_core.specs.declared.flat.DefBody.{DefBody}
use Rattle.smv_core.specs.declared.flat.FlatExpr.{FlatExpr}
use Rattle.law_obligations.specs.Sets.{one_of_each}
use Rattle.law_obligations.specs.Places.{Place, is_among}
use Rattle.law_obligations.specs.May.{may}
use Rattle.law_obligations.specs.Right.{may_allow, must_allow}
use Rattle.law_obligations.specs.Results.{assigned, results}
use Rattle.law_obligations.specs.Gist.{Gist, gist_of, if_gist, first_all}
use Rattle.smv_spots.specs.declared.spots.Spot.{Spot}
use Rattle.smv_spots.specs.Spots.{place_in}
use Rattle.smv_problem.specs.declared.problem.Problem.{Problem}
use Rattle.smv_conditions.specs.declared.gists.Gists.{Gists}
use Rattle.smv_conditions.specs.Gists.{gist_at}
use Rattle.smv_cells.specs.declared.cells.Cell.{Cell}
use Rattle.smv_targets.specs.declared.targets.Target.{Target}
use Rattle.smv_targets.specs.Targets.{Aim, IsAim}
use Rattle.smv_sides.specs.Outcomes.{mix_in}
use Rattle.smv_walks.specs.Passed.{gist_or_nothing}
use Rattle.smv_walks.specs.declared.walks.Way.{Way}
use Rattle.smv_walks.specs.declared.walks.Way.TheVariants.{May, Must}

-- what is asked of a result, as a set of places: that the value is in it, or that it is not
abbrev pub asked : Way → Place → (Place → Bool) → Bool
asked May p x = x p
asked Must p x = not (x p)

-- what a right side gives: what it may allow, or what it allows for certain
abbrev pub allowed : Way → Aim → (ℕ → Bool) → FlatExpr → List Place → Place → Bool
allowed May z a = may_allow z.view.world z.view.kept (z.view.state a) z.every
allowed Must z a = must_allow z.view.world z.view.kept (z.view.state a) z.every

-- whether everything passes what is asked, and a right side
abbrev pub everything_of : {C : Type 0} → Target C → Way → C
everything_of t May = t.always
everything_of t Must = t.never

unfoldable pub right_of : Way → List Spot → FlatExpr → Aim → (ℕ → Bool) → Bool
right_of way b value z a = asked way (z.value a) (allowed way z a value (map (place_in z.view.world.classes) b))

-- the gist of the possible results of a part for the element, its variables at these places, and at these spots
abbrev pub gist_over : Way → Aim → (ℕ → Bool) → List Place → DefBody → Gist
gist_over way z a b part = gist_of (asked way (z.value a)) (results z.view.world z.view.kept (z.view.state a) z.indexes (λ p. is_among z.every p) (allowed way z a) part b)

unfoldable pub gist_in : Way → Aim → (ℕ → Bool) → List Spot → DefBody → Gist
gist_in way z a b part = gist_over way z a (map (place_in z.view.world.classes) b) part

-- that of an assignment with this left side
unfoldable pub gist_assigned : Way → Aim → (ℕ → Bool) → List Spot → List FlatExpr → FlatExpr → Gist
gist_assigned way z a b left value =
    gist_of (asked way (z.value a)) (map (λ us. assigned z.view.world z.view.kept (z.view.state a) z.indexes (λ p. is_among z.every p) (allowed way z a) us value (map (place_in z.view.world.classes) b)) (one_of_each (map (λ e. may z.view.world z.view.kept (z.view.state a) e (map (place_in z.view.world.classes) b)) left)))

module _ {S C : Type 0} (holds : S → C → (ℕ → Bool) → Bool) (start s : S) (problem : Problem) (cells : List (Cell C)) (t : Target C) where
  -- three conditions, made later, are this gist of the element at each assignment
  unfoldable pub IsGistsOf : (Aim → (ℕ → Bool) → Gist) → Gists C → Type 0
  IsGistsOf gist g = (z : Aim) → IsAim holds start problem cells t z → (a : ℕ → Bool) → gist_at holds s a g ≡ gist z a

  -- conditions that may be left out are this gist
  unfoldable pub IsPassedOf : (Aim → (ℕ → Bool) → Gist) → Option (Gists C) → Type 0
  IsPassedOf gist o = (z : Aim) → IsAim holds start problem cells t z → (a : ℕ → Bool) → gist_or_nothing holds s a o ≡ gist z a

  -- and are what a condition gives of two branches
  unfoldable pub IsTaken : Way → List Spot → FlatExpr → Option (Gists C) → Option (Gists C) → Option (Gists C) → Type 0
  IsTaken way b cond g h k = IsPassedOf (λ z a. if_gist (asked way (z.value a) (λ p. is_among z.every p)) (mix_in z.view a b cond) (gist_or_nothing holds start a g) (gist_or_nothing holds start a h)) k

  -- the first of those of each of these parts, of which the last are still to come
  unfoldable pub AreGistsOf : Way → List Spot → List DefBody → List DefBody → List (Gists C) → Type 0
  AreGistsOf way b all rest each = (z : Aim) → IsAim holds start problem cells t z → (a : ℕ → Bool) → first_all (map (gist_at holds s a) each ++ map (gist_in way z a b) rest) ≡ first_all (map (gist_in way z a b) all)

  -- those of a part under each of these bindings
  unfoldable pub AreGistsAlong : Way → DefBody → List (List Spot) → List (List Spot) → List (Gists C) → Type 0
  AreGistsAlong way body all rest each = (z : Aim) → IsAim holds start problem cells t z → (a : ℕ → Bool) → first_all (map (gist_at holds s a) each ++ map (λ b. gist_in way z a b body) rest) ≡ first_all (map (λ b. gist_in way z a b body) all)
