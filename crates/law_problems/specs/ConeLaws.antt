-- The laws: what the crate's public functions say.
use Rattle.std.specs.Prelude.{◌≡◌, ◌≤◌, ◌+◌, ℕ, List, [], ◌++◌, map, length, slice_get, Some, Bool, true, false}
use Rattle.smv_core.specs.Assignments.{Index}
use Rattle.smv_core.specs.declared.flat.Simple.{Simple}
use Rattle.smv_core.specs.declared.flat.DefBody.{DefBody}
use Rattle.law_obligations.specs.Sets.{Has, one_of_each}
use Rattle.law_obligations.specs.Places.{Place, World, named_in}
use Rattle.law_obligations.specs.Covers.{IsIndexType}
use Rattle.law_obligations.specs.Reached.{IsLeast}
use Rattle.law_obligations.specs.Reads.{has_counting, part_reads}
use Rattle.law_obligations.specs.Outlines.{Entry, Outline}
use Rattle.law_obligations.specs.Cones.{AbsElement, elements, cone}
use Rattle.law_obligations.specs.Readings.{bits_of_all}
use Rattle.smv_problem.specs.WellFormed.{AreApartElements}
use Rattle.smv_problem.specs.Written.{written_class, written_element}
use Rattle.law_problems.specs.Search.{IsSearch}
use Rattle.law_problems.specs.Written.{named_classes}
use Rattle.law_problems.specs.Order.{AreInOrder, AreIndexed}

-- A search begins with what it is from, goes on from each that is found, and where it has gone on from all of them they are the least set.
abbrev pub SearchesBegin : Type 0 → Type 0
SearchesBegin X = (next : X → List X) (from set : List X) → IsLeast next from set → (found : List X) → ((x : X) → Has from x → Has found x) → ((x : X) → Has found x → Has from x) → IsSearch next from set found 0

abbrev pub SearchesGoOn : Type 0 → Type 0
SearchesGoOn X = (next : X → List X) (from set : List X) → IsLeast next from set → (found more : List X) (turn : ℕ) (x : X) → IsSearch next from set found turn → slice_get found turn ≡ Some x →
    ((y : X) → Has more y → Has (next x) y) → ((y : X) → Has (next x) y → Has (found ++ more) y) → IsSearch next from set (found ++ more) (turn + 1)

abbrev pub SearchesEnd : Type 0 → Type 0
SearchesEnd X = (same : X → X → Bool) → ((x y : X) → same x y ≡ true → x ≡ y) → ((x : X) → same x x ≡ true) → (next : X → List X) (from set : List X) → IsLeast next from set →
    (found : List X) (turn : ℕ) → IsSearch next from set found turn → length found ≤ turn → (x : X) → Has set x → Has found x

-- a list in order with the elements of a cone is the cone
abbrev pub SortedIsCone : Type 0
SortedIsCone = (w : World) (o : Outline) (entry : Entry) (params : List Place) → AreIndexed w → (found : List AbsElement) → AreInOrder found →
    ((x : AbsElement) → Has found x → Has (cone w o entry params) x) → ((x : AbsElement) → Has (cone w o entry params) x → Has found x) → found ≡ cone w o entry params

-- different elements of a cone have no more bits than the cone
abbrev pub FoundHasNoMoreBits : Type 0
FoundHasNoMoreBits = (w : World) (found all : List AbsElement) → AreApartElements found → ((x : AbsElement) → Has found x → Has all x) → bits_of_all w found ≤ bits_of_all w all

-- a part of a definition in which no assignment counts reads nothing
abbrev pub UncountedReadsNothing : Type 0 → Type 0
UncountedReadsNothing X = (every places : Simple → List Place) (counts : List Index → List Place → Bool) (read : ℕ → List Index → List Place → List X) (part : DefBody) (b : List Place) →
    has_counting every counts part b ≡ false → part_reads every counts places read part b ≡ []

-- the numbers and classes of an index type are written as those of its world
abbrev pub NamedAreWritten : Type 0
NamedAreWritten = (w : World) (t : Simple) → IsIndexType t → map written_class (named_in w t) ≡ named_classes w t

-- choices are written choice by choice
abbrev pub ChoicesAreWritten : Type 0
ChoicesAreWritten = (pss : List (List Place)) → map (map written_class) (one_of_each pss) ≡ one_of_each (map (map written_class) pss)

-- elements that are written alike are one
abbrev pub ElementsAreWritten : Type 0
ElementsAreWritten = (w : World) → AreIndexed w → (x y : AbsElement) → Has (elements w) x → Has (elements w) y → written_element x ≡ written_element y → x ≡ y

-- the elements of a cone are in order
abbrev pub ConesAreInOrder : Type 0
ConesAreInOrder = (w : World) (o : Outline) (entry : Entry) (params : List Place) → AreIndexed w → AreInOrder (cone w o entry params)
