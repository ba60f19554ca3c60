-- The order of elements: by families and then by their indexes.
use Rattle.std.specs.Prelude.{ℕ, List, [], ◌∷◌, Bool, false, ◌&&◌, ◌||◌, nat_eq, nat_lt, IsTrue}
use Rattle.smv_core.specs.Values.{Value, number, constant, scalar, ordinal}
use Rattle.smv_core.specs.declared.flat.Family.{Family}
use Rattle.smv_core.specs.declared.flat.Simple.{Simple}
use Rattle.law_obligations.specs.Sets.{Has}
use Rattle.law_obligations.specs.Places.{Place, named, rest, World}
use Rattle.law_obligations.specs.Covers.{IsIndexType}
use Rattle.law_obligations.specs.Cones.{AbsElement}

-- the number of a value; a constant, which is no index, has none
abbrev pub number_of : Value → ℕ
number_of (number k) = k
number_of (scalar t k) = k
number_of (ordinal t k) = k
number_of (constant name) = 0

abbrev pub number_at : Place → ℕ
number_at (named v) = number_of v
number_at (rest v) = number_of v

-- by the first index in which they differ
abbrev pub are_before : List Place → List Place → Bool
are_before (p ∷ ps) (q ∷ qs) = nat_lt (number_at p) (number_at q) || (nat_eq (number_at p) (number_at q) && are_before ps qs)
are_before _ _ = false

abbrev pub is_before : AbsElement → AbsElement → Bool
is_before x y = nat_lt x.family y.family || (nat_eq x.family y.family && are_before x.indexes y.indexes)

-- each stands before all that follow
abbrev pub AreInOrder : List AbsElement → Type 0
AreInOrder [] = Unit {0}
AreInOrder (x ∷ xs) = ((y : AbsElement) → Has xs y → IsTrue (is_before x y)) × AreInOrder xs

-- the indexes of each family are over ranges and set types
abbrev pub AreIndexed : World → Type 0
AreIndexed w = (f : Family) → Has w.classes.families f → (t : Simple) → Has f.over t → IsIndexType t
