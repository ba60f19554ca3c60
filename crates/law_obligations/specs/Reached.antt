-- What is reached from some members along edges: the least set that has these members and, with each member, those that follow it.
use Rattle.std.specs.Prelude.{◌≡◌, ℕ, zero, suc, List, [], ◌∷◌, ◌++◌, slice_get, Option, Some, None, Bool, true, if◌then◌else◌}
use Rattle.std.specs.List.{list_any}
use Rattle.law_obligations.specs.Sets.{Has}

module _ {X : Type 0} (same : X → X → Bool) (next : X → List X) where
  -- one of these
  abbrev pub is_among : List X → X → Bool
  is_among xs x = list_any (same x) xs

  -- each that is not there yet, put at the end
  abbrev pub with_all : List X → List X → List X
  with_all found [] = found
  with_all found (x ∷ xs) = with_all (if is_among found x then found else found ++ x ∷ []) xs

  -- those that follow the one at a place
  abbrev pub following : Option X → List X
  following None = []
  following (Some x) = next x

  -- from a place on, each in turn puts those that follow it at the end
  abbrev pub in_turn : ℕ → ℕ → List X → List X
  in_turn zero place found = found
  in_turn (suc turns) place found = in_turn turns (suc place) (with_all found (following (slice_get found place)))

  -- what is reached from these, where it has at most so many members
  abbrev pub reached : ℕ → List X → List X
  reached count from = in_turn count 0 (with_all [] from)

-- the least set that has these members and, with each member, those that follow it
pub record IsLeast {X : Type 0} (next : X → List X) (from set : List X) : Type 0 where
  pub begins : (x : X) → Has from x → Has set x
  pub goes_on : (x y : X) → Has set x → Has (next x) y → Has set y
  pub is_least : (other : X → Bool) → ((x : X) → Has from x → other x ≡ true) → ((x y : X) → other x ≡ true → Has (next x) y → other y ≡ true) →
      (x : X) → Has set x → other x ≡ true
