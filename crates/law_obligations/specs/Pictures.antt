-- Placings: where the values of a design lie in a case, and when an abstract state is the picture of a state.
use Rattle.std.specs.Prelude.{◌≡◌, ℕ, List, [], ◌∷◌, map, slice_get, Option, Some, None, true, false}
use Rattle.smv_core.specs.Values.{Name, Value, number, constant, scalar, ordinal, Simple, Sizes, values_of, same, below}
use Rattle.smv_core.specs.FlatMeaning.{Numbered, FlatState, values_in, simple_in}
use Rattle.smv_core.specs.declared.flat.Family.{Family}
use Rattle.smv_core.specs.declared.flat.Simple.{Simple as FlatSimple}
use Rattle.law_obligations.specs.Sets.{Has}
use Rattle.law_obligations.specs.Places.{Place, named, rest, World, named_of, named_in, places_of, places_in, equal_places, below_places}
use Rattle.law_obligations.specs.May.{AbsState, Kept}

-- a class or a rest of a set type, by its number
pub data Spot : Type 0 where
  class : ℕ → Spot
  other : ℕ → Spot

-- a placing: where each value of each set type lies
abbrev pub Placing : Type 0
Placing = Name → ℕ → Spot

-- the place of a value at a spot of its type
abbrev pub at_spot : (ℕ → Value) → Spot → Place
at_spot value (class c) = named (value c)
at_spot value (other g) = rest (value g)

-- where a value lies
abbrev pub placed : Placing → Value → Place
placed spots (number n) = named (number n)
placed spots (constant name) = named (constant name)
placed spots (scalar t k) = at_spot (scalar t) (spots t k)
placed spots (ordinal t k) = at_spot (ordinal t) (spots t k)

-- The three facts of a type under a placing; nothing else of a set type is used anywhere. Each value is at one place of the type; each
-- class has exactly one value; and two values compare as one of the answers that their places allow.
pub record IsPlaced (sizes : Sizes) (w : World) (place : Value → Place) (t : Simple) : Type 0 where
  pub is_somewhere : (v : Value) → Has (values_of sizes t) v → Has (places_of w t) (place v)
  pub class_has_value : (q : Place) → Has (named_of w t) q → (v : Value) × Has (values_of sizes t) v × (place v ≡ q)
  pub class_has_one : (u v : Value) → Has (values_of sizes t) u → Has (values_of sizes t) v → Has (named_of w t) (place u) → place u ≡ place v → u ≡ v
  pub equality : (u v : Value) → Has (values_of sizes t) u → Has (values_of sizes t) v → Has (equal_places (place u) (place v)) (Some (same u v))
  pub order : (u v : Value) → Has (values_of sizes t) u → Has (values_of sizes t) v → Has (below_places (place u) (place v)) (below (Some u) (Some v))

-- the facts of each type of a design
abbrev pub ArePlaced : Numbered → World → Placing → Type 0
ArePlaced n w spots = (t : FlatSimple) → IsPlaced n.sizes w (placed spots) (simple_in n t)

-- values that are of these types, one after the other
abbrev pub AreOfTypes : Numbered → List FlatSimple → List Value → Type 0
AreOfTypes n types [] = Unit {0}
AreOfTypes n [] (v ∷ vs) = ⊥
AreOfTypes n (t ∷ types) (v ∷ vs) = Has (values_in n t) v × AreOfTypes n types vs

-- a state gives each element a value of its type
abbrev pub IsState : Numbered → FlatState → Type 0
IsState n s = (family : ℕ) (f : Family) → slice_get n.families family ≡ Some f → (vs : List Value) → AreOfTypes n f.over vs → Has (values_in n f.value) (s family vs)

-- each kept element is where the state's value lies
abbrev pub IsPicture : Numbered → Placing → Kept → FlatState → AbsState → Type 0
IsPicture n spots kept s a = (family : ℕ) (f : Family) → slice_get n.families family ≡ Some f → (vs : List Value) → AreOfTypes n f.over vs →
    kept family (map (placed spots) vs) ≡ true → a family (map (placed spots) vs) ≡ placed spots (s family vs)

-- classes, numbers and constants of these types, one after the other
abbrev pub AreNamedOf : World → List FlatSimple → List Place → Type 0
AreNamedOf w types [] = Unit {0}
AreNamedOf w [] (p ∷ ps) = ⊥
AreNamedOf w (t ∷ types) (p ∷ ps) = Has (named_in w t) p × AreNamedOf w types ps

-- only elements whose indexes are numbers, constants and classes are kept
abbrev pub KeepsNamed : World → Kept → Type 0
KeepsNamed w kept = (family : ℕ) (f : Family) → slice_get w.classes.families family ≡ Some f → (ps : List Place) → kept family ps ≡ true → AreNamedOf w f.over ps

-- an abstract state of a case: each kept element is at a place of its type, and what is not kept, which nothing reads, is 0
pub record IsAbsState (w : World) (kept : Kept) (a : AbsState) : Type 0 where
  pub is_somewhere : (family : ℕ) (f : Family) → slice_get w.classes.families family ≡ Some f → (ps : List Place) → kept family ps ≡ true → Has (places_in w f.value) (a family ps)
  pub is_unread : (family : ℕ) (ps : List Place) → kept family ps ≡ false → a family ps ≡ named (number 0)

-- a number, a constant, or a value of a set type of the design
abbrev pub IsValue : Numbered → Value → Type 0
IsValue n (number k) = Unit {0}
IsValue n (constant name) = Unit {0}
IsValue n v = (t : FlatSimple) × Has (values_in n t) v

abbrev pub AreValues : Numbered → List Value → Type 0
AreValues n [] = Unit {0}
AreValues n (v ∷ vs) = IsValue n v × AreValues n vs

-- the state before and its picture, or neither at time 0
abbrev pub ArePictured : Numbered → Placing → Kept → Option FlatState → Option AbsState → Type 0
ArePictured n spots kept None None = Unit {0}
ArePictured n spots kept (Some s) (Some a) = IsState n s × IsPicture n spots kept s a
ArePictured n spots kept _ _ = ⊥
