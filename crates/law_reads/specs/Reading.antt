-- What expressions and demands read of a state, at the rests of a type too, and states that tell the same of it.
use Rattle.std.specs.Prelude.{◌≡◌, ℕ, List, [], ◌∷◌, map, flat_map, zip, slice_get, Option, Some, None, Bool, true, not, if◌then◌else◌}
use Rattle.std.specs.List.{list_any}
use Rattle.smv_core.specs.Assignments.{Index, fixed, bare, computed}
use Rattle.smv_core.specs.declared.flat.Family.{Family}
use Rattle.smv_core.specs.declared.flat.DefBody.{DefBody}
use Rattle.smv_core.specs.declared.flat.FlatExpr.{FlatExpr}
use Rattle.law_obligations.specs.Sets.{Has, one_of_each}
use Rattle.law_obligations.specs.Places.{Place, World, named_in, places_in, AbsOutcome, as_place}
use Rattle.law_obligations.specs.May.{AbsState, Kept}
use Rattle.law_obligations.specs.Reads.{reads, part_reads}
use Rattle.law_obligations.specs.Results.{is_elsewhere}
use Rattle.law_obligations.specs.Demands.{concerns_place}
use Rattle.law_obligations.specs.Obligations.{Demanded, defined, holds, AbstractProblem}
use Rattle.law_obligations.specs.Cones.{AbsElement, element, index_places}

-- what a state tells of an element: its value, where it is kept
abbrev pub told : Kept → AbsState → AbsElement → Option Place
told kept a x = if kept x.family x.indexes then Some (a x.family x.indexes) else None

-- two states tell the same of each of these elements
abbrev pub TellSame : Kept → AbsState → Kept → AbsState → List AbsElement → Type 0
TellSame kept a other d xs = (x : AbsElement) → Has xs x → told kept a x ≡ told other d x

-- the outcome of an index as far as the text and the variables alone tell it; of a computed one they tell nothing
abbrev pub known_at : List Place → Index → AbsOutcome
known_at b (fixed u) = as_place u
known_at b (bare var) = slice_get b var
known_at b computed = None

-- an assignment may be of the element of these indexes: no index of its left side is known to be elsewhere
abbrev pub may_be_of : List Place → List Index → List Place → Bool
may_be_of indexes left b = not (list_any (λ (i, q). is_elsewhere (known_at b i) q) (zip left indexes))

-- for each index that is given the places where it may lie, of those of its type
abbrev pub each_given : List Place → List Index → List (List Place) → List (List Place)
each_given b (i ∷ indexes) (ps ∷ pss) = index_places b i ps ∷ each_given b indexes pss
each_given b _ _ = []

module _ (w : World) where
  -- the type of each family has a value
  abbrev pub HaveValues : Type 0
  HaveValues = (family : ℕ) (f : Family) → slice_get w.classes.families family ≡ Some f → (v : Place) × Has (places_in w f.value) v

  -- the elements that a reference reads, with as many indexes as it gives: a constant and a bound variable lie at their own place, if it is a number or a class
  abbrev pub elements_given_in : ℕ → List Index → List Place → Option Family → List AbsElement
  elements_given_in family indexes b None = []
  elements_given_in family indexes b (Some f) = map (element family) (one_of_each (each_given b indexes (map (named_in w) f.over)))

  abbrev pub elements_given : ℕ → List Index → List Place → List AbsElement
  elements_given family indexes b = elements_given_in family indexes b (slice_get w.classes.families family)

  -- the elements that an expression reads where its variables are bound to these places; quantifiers and comprehensions go over the rests of a type too
  abbrev pub read_in : FlatExpr → List Place → List AbsElement
  read_in e b = reads (places_in w) elements_given e b

  -- those that a part of a definition reads for the element of these indexes, with so many variables bound
  abbrev pub read_of : List Place → DefBody → List Place → List AbsElement
  read_of indexes part b = part_reads (places_in w) (may_be_of indexes) (places_in w) elements_given part b

  -- those that a demand reads of the state now, beside the element that it defines: by `:=` where one concerns the element, and else by `init`
  abbrev pub read_now : Demanded → List AbsElement
  read_now (defined def indexes) = read_of indexes (if concerns_place def.comb indexes then def.comb else def.init) []
  read_now (holds body b) = read_in body b

  -- and of the state before: by `next`
  abbrev pub read_before : Demanded → List AbsElement
  read_before (defined def indexes) = read_of indexes def.next []
  read_before (holds body b) = []

  -- what guards read
  abbrev pub read_by_guards : AbstractProblem → List AbsElement
  read_by_guards p = flat_map (λ g. read_in g.expr p.params) p.guards

-- a demand is of the state now alone: a claim, or an element that a `:=` concerns
abbrev pub is_at_once : Demanded → Bool
is_at_once (defined def indexes) = concerns_place def.comb indexes
is_at_once (holds body b) = true

-- the element that a demand defines has one value in two states
abbrev pub OwnSame : AbsState → AbsState → Demanded → Type 0
OwnSame a d (defined def indexes) = a def.family indexes ≡ d def.family indexes
OwnSame a d (holds body b) = Unit {0}

module _ (w : World) where
  -- two states tell the same of what a demand reads now
  pub record NowSame (kept : Kept) (a : AbsState) (other : Kept) (d : AbsState) (demand : Demanded) : Type 0 where
    pub tells : TellSame kept a other d (read_now w demand)
    pub own : OwnSame a d demand

  -- and of what it reads before, or there is no state before
  abbrev pub BeforeSame : Kept → Option AbsState → Kept → Option AbsState → Demanded → Type 0
  BeforeSame kept None other None demand = Unit {0}
  BeforeSame kept (Some a) other (Some d) demand = TellSame kept a other d (read_before w demand) × OwnSame a d demand
  BeforeSame kept _ other _ demand = ⊥
