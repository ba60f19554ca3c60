-- The laws: what the crate's public functions say.
use Rattle.std.specs.Prelude.{◌≡◌, ℕ, List, [], ◌∷◌, Bool, true, false, slice_get, Some}
use Rattle.smv_core.specs.Values.{Name, Truth}
use Rattle.smv_core.specs.FlatMeaning.{Numbered}
use Rattle.smv_core.specs.declared.flat.Simple.{Simple}
use Rattle.smv_core.specs.declared.flat.Simple.TheVariants.{Set}
use Rattle.smv_core.specs.declared.flat.SetInfo.{SetInfo}
use Rattle.law_obligations.specs.Sets.{Has}
use Rattle.law_obligations.specs.Places.{Place, is_named, World, places_in, same_place, equal_places, below_places}
use Rattle.law_designs.specs.FlatKinds.{FlatKind, kind_of, joins, set_type}
use Rattle.smv_problem.specs.WellFormed.{AreDistinct}
use Rattle.smv_problem.specs.Written.{written_place}
use Rattle.law_problems.specs.Values.{IsPlaceOf, same_value, equal_values, below_values}

-- the places of a type are of its kind
abbrev pub PlacesHaveKinds : Type 0
PlacesHaveKinds = (w : World) (t : Simple) (p : Place) → Has (places_in w t) p → IsPlaceOf w.classes (kind_of t) p

-- each enumeration has distinct constants
abbrev pub AreAllDistinct : Numbered → Type 0
AreAllDistinct n = (names : List Name) → Has n.enums names → AreDistinct names

-- places of kinds that may stand side by side are the same where they are written alike, and are equal as they are written
abbrev pub PlacesAreAlike : Type 0
PlacesAreAlike = (n : Numbered) → AreAllDistinct n → (j k : FlatKind) → joins j k ≡ true → (p q : Place) → IsPlaceOf n j p → IsPlaceOf n k q →
    same_place p q ≡ same_value (written_place n j p) (written_place n k q)

abbrev pub PlacesAreEqualAsWritten : Type 0
PlacesAreEqualAsWritten = (n : Numbered) → AreAllDistinct n → (j k : FlatKind) → joins j k ≡ true → (p q : Place) → IsPlaceOf n j p → IsPlaceOf n k q →
    equal_places p q ≡ equal_values (written_place n j p) (written_place n k q)

-- the set type of a kind, if it is one, is ordered
abbrev pub IsOrdered : Numbered → FlatKind → Type 0
IsOrdered n k = (set : _) → k ≡ set_type set → (info : SetInfo) → slice_get n.sets set ≡ Some info → info.ordered ≡ true

-- where their set types are ordered they are below one another as they are written
abbrev pub PlacesAreBelowAsWritten : Type 0
PlacesAreBelowAsWritten = (n : Numbered) → (j k : FlatKind) → joins j k ≡ true → IsOrdered n j → IsOrdered n k → (p q : Place) → IsPlaceOf n j p → IsPlaceOf n k q →
    below_places p q ≡ below_values (written_place n j p) (written_place n k q)

-- it is known whether one place is below another
abbrev pub IsKnown : List Truth → Type 0
IsKnown truths = (b : Bool) × (truths ≡ Some b ∷ [])

-- it may be so or not
abbrev pub IsEither : List Truth → Type 0
IsEither truths = truths ≡ Some true ∷ Some false ∷ []

-- two places that are one gap
abbrev pub IsOneGap : Place → Place → Type 0
IsOneGap p q = (p ≡ q) × (is_named p ≡ false)

-- of two places of an ordset it is known whether the first is below the second, but for a gap and itself, which may be so or not
abbrev pub OrdersAreKnown : Type 0
OrdersAreKnown = (w : World) (set : ℕ) (info : SetInfo) → slice_get w.classes.sets set ≡ Some info → info.ordered ≡ true →
    (p q : Place) → Has (places_in w (Set set)) p → Has (places_in w (Set set)) q →
    (IsOneGap p q → IsEither (below_places p q)) × ((IsOneGap p q → ⊥) → IsKnown (below_places p q))
