-- What the definition of an element may give it, in a may and a must sense: that its value may be allowed, or that it is not allowed for certain.
use Rattle.std.specs.Prelude.{◌≡◌, ℕ, List, [], map, slice_get, Option, Some, None, Bool, not, ◌&&◌, if◌then◌else◌}
use Rattle.std.specs.List.{list_any}
use Rattle.smv_core.specs.declared.flat.Def.{Def}
use Rattle.smv_core.specs.declared.flat.Element.{Element}
use Rattle.smv_core.specs.declared.flat.DefBody.{DefBody}
use Rattle.law_obligations.specs.Places.{Place, World, same_place, is_named, is_among, AbsOutcome}
use Rattle.law_obligations.specs.May.{AbsState, Kept}
use Rattle.law_obligations.specs.Right.{gives_surely}
use Rattle.law_obligations.specs.Results.{results}
use Rattle.law_obligations.specs.Demands.{concerns_place, may_be, must_be, places_of_family, is_broken_map}
use Rattle.law_obligations.specs.Obligations.{AbstractProblem as Case, defined}
use Rattle.smv_problem.specs.declared.problem.Problem.{Problem}
use Rattle.smv_problem.specs.Written.{written_class}
use Rattle.smv_cells.specs.declared.cells.Cell.{Cell}
use Rattle.smv_targets.specs.declared.targets.Target.{Target}
use Rattle.smv_targets.specs.Targets.{Aim, IsAim, IsTarget, exactly}
use Rattle.smv_cells.specs.Seen.{View}
use Rattle.smv_targets.specs.CellTargets.{IsElementOf}
use Rattle.smv_walks.specs.declared.walks.Way.{Way}
use Rattle.smv_walks.specs.declared.walks.Way.TheVariants.{May, Must}
use Rattle.smv_walks.specs.Walks.{asked, allowed}
use Rattle.smv_walks.specs.Demands.{view_of, at_before, AreRead, IsDemand, IsTargetOf}

-- a result passes a test, or what Nothing stands for does
abbrev pub passes_or : {X : Type 0} → (X → Bool) → Bool → Option X → Bool
passes_or f b None = b
passes_or f b (Some x) = f x

-- an element of a view that is asked about this value, whatever its own is
abbrev pub aim_at : View → ℕ → List Place → ((ℕ → Bool) → Place) → Aim
aim_at v family ps value = record { view = v; indexes = ps; every = places_of_family v.world v.kept (slice_get v.world.classes.families family); value = value }

-- some possible result of a part passes what is asked, where Nothing does so by `b`
unfoldable pub gives_in : Way → Aim → (ℕ → Bool) → DefBody → Bool → Bool
gives_in way z a part b = list_any (passes_or (asked way (z.value a)) b) (results z.view.world z.view.kept (z.view.state a) z.indexes (λ p. is_among z.every p) (allowed way z a) part [])

-- an outcome as the value before passes
abbrev pub keeps_asked : Way → List Place → AbsOutcome → Place → Bool
keeps_asked May every u p = exactly u p
keeps_asked Must every u p = not (gives_surely every u p)

-- what Nothing stands for after this value, where some `next` concerns the element, and else
abbrev pub kept_after : Way → Bool → List Place → Place → Place → Bool
kept_after May concerned every q p = if concerned then same_place q p else is_among every p
kept_after Must concerned every q p = if concerned then same_place q p && is_named p else is_among every p

-- it passes; the view is that of the state before
unfoldable pub nothing_in : Way → ℕ → DefBody → Aim → (ℕ → Bool) → Bool
nothing_in way family next z a = asked way (z.value a) (kept_after way (concerns_place next z.indexes) z.every (z.view.state a family z.indexes))

-- some possible result of `next` passes after the state before, and one of another part in the state now
unfoldable pub next_in : Way → ℕ → DefBody → Aim → (ℕ → Bool) → Bool
next_in way family next z a = gives_in way z a next (nothing_in way family next z a)

unfoldable pub now_in : Way → DefBody → Aim → (ℕ → Bool) → Bool
now_in way part z a = gives_in way z a part (asked way (z.value a) (λ p. is_among z.every p))

-- the definition of an element may allow the place, or doesn't allow it for certain
abbrev pub possible : Way → World → Kept → Def → List Place → List Place → Option AbsState → AbsState → Place → Bool
possible May w kept def indexes every before now p = may_be w kept def indexes every before now p
possible Must w kept def indexes every before now p = not (must_be w kept def indexes every before now p)

-- a definition of this family with these parts
pub record IsDefinition (of_family : ℕ) (first later always : DefBody) (def : Def) : Type 0 where
  pub family : def.family ≡ of_family
  pub init : def.init ≡ first
  pub next : def.next ≡ later
  pub comb : def.comb ≡ always

module _ {S C : Type 0} (holds : S → C → (ℕ → Bool) → Bool) (start s : S) (problem : Problem) where
  -- what is asked of a target that is an element with values of its type in the view before
  unfoldable pub IsSoOf : List (Cell C) → Target C → ℕ → (Aim → (ℕ → Bool) → Bool) → C → Type 0
  IsSoOf cells t family is r = (z : Aim) → IsAim holds start problem cells t z → IsElementOf z.view family z.indexes → z.every ≡ places_of_family z.view.world z.view.kept (slice_get z.view.world.classes.families family) → (a : ℕ → Bool) → holds s r a ≡ is z a

  -- a condition, made later, holds where the definition of an element of a case may give it this value, or not for certain
  unfoldable pub IsGivenAt : Option (List (Cell C)) → List (Cell C) → Way → (Case → Def → List Place → ((ℕ → Bool) → AbsState) → ((ℕ → Bool) → Place) → Type 0) → C → Type 0
  IsGivenAt old cells way Asked r = (p : Case) (before : Option ((ℕ → Bool) → AbsState)) (now : (ℕ → Bool) → AbsState) → AreRead holds start problem old cells p before now → (def : Def) (indexes : List Place) (value : (ℕ → Bool) → Place) → IsDemand p (defined def indexes) → Asked p def indexes now value →
      (a : ℕ → Bool) → holds s r a ≡ possible way p.world p.kept def indexes (places_of_family p.world p.kept (slice_get p.world.classes.families def.family)) (at_before before a) (now a) (value a)

  -- the same of the value that the element has now
  unfoldable pub IsGiven : Option (List (Cell C)) → List (Cell C) → Way → (Case → Def → List Place → ((ℕ → Bool) → AbsState) → Type 0) → C → Type 0
  IsGiven old cells way Asked r = (p : Case) (before : Option ((ℕ → Bool) → AbsState)) (now : (ℕ → Bool) → AbsState) → AreRead holds start problem old cells p before now → (def : Def) (indexes : List Place) → IsDemand p (defined def indexes) → Asked p def indexes now →
      (a : ℕ → Bool) → holds s r a ≡ possible way p.world p.kept def indexes (places_of_family p.world p.kept (slice_get p.world.classes.families def.family)) (at_before before a) (now a) (now a def.family indexes)

-- the element and the value are those of a target, or the element is written so
pub record IsTargets {S C : Type 0} (holds : S → C → (ℕ → Bool) → Bool) (start : S) (t : Target C) (family : ℕ) (init next comb : DefBody) (p : Case) (def : Def) (indexes : List Place) (now : (ℕ → Bool) → AbsState) (value : (ℕ → Bool) → Place) : Type 0 where
  pub definition : IsDefinition family init next comb def
  pub target : IsTarget holds start t (aim_at (view_of p now) def.family indexes value)

abbrev pub IsWritten : Element → DefBody → DefBody → DefBody → Case → Def → List Place → ((ℕ → Bool) → AbsState) → Type 0
IsWritten element init next comb p def indexes now = IsDefinition element.family init next comb def × (element.indexes ≡ map written_class indexes)

-- a condition, made later, holds where the refinement map of an element of a case that is written so is broken
unfoldable pub IsMapBroken : {S C : Type 0} → (S → C → (ℕ → Bool) → Bool) → S → S → Problem → Option (List (Cell C)) → List (Cell C) → (Case → Def → List Place → ((ℕ → Bool) → AbsState) → Type 0) → C → Type 0
IsMapBroken holds start s problem old cells Asked r = (p : Case) (before : Option ((ℕ → Bool) → AbsState)) (now : (ℕ → Bool) → AbsState) → AreRead holds start problem old cells p before now → (def : Def) (indexes : List Place) → IsTargetOf p (defined def indexes) → Asked p def indexes now →
    (a : ℕ → Bool) → holds s r a ≡ is_broken_map p.world p.kept def indexes (at_before before a) (now a)
