-- Finite sets as lists.
use Rattle.std.specs.Prelude.{List, [], ◌∷◌, ◌++◌, map, flat_map, Option, Some, None, option_map}

-- a member of a list
pub data Has {X : Type 0} : List X → X → Type 0 where
  first : {x : X} {xs : List X} → Has (x ∷ xs) x
  later : {x y : X} {xs : List X} → Has xs x → Has (y ∷ xs) x

-- one member of each set, in all ways
abbrev pub one_of_each : {X : Type 0} → List (List X) → List (List X)
one_of_each [] = [] ∷ []
one_of_each (xs ∷ more) = flat_map (λ x. map (λ ys. x ∷ ys) (one_of_each more)) xs

-- every part of a set, the empty one too
abbrev pub parts : {X : Type 0} → List X → List (List X)
parts [] = [] ∷ []
parts (x ∷ xs) = parts xs ++ map (λ ys. x ∷ ys) (parts xs)

-- what may come of one member of each of two sets
abbrev pub pairs : {X Y Z : Type 0} → (X → Y → List Z) → List X → List Y → List Z
pairs f xs ys = flat_map (λ x. flat_map (f x) ys) xs

-- all of them, where none is missing
abbrev pub all_there : {X : Type 0} → List (Option X) → Option (List X)
all_there [] = Some []
all_there (Some x ∷ more) = option_map (λ xs. x ∷ xs) (all_there more)
all_there (None ∷ more) = None
