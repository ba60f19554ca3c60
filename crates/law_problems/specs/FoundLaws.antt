-- The laws: what the crate's public functions say.
use Rattle.std.specs.Prelude.{◌≡◌, ◌≤◌, List, map, length}
use Rattle.smv_core.specs.declared.flat.Element.{Element}
use Rattle.law_obligations.specs.Sets.{Has}
use Rattle.law_obligations.specs.Places.{Place, World}
use Rattle.law_obligations.specs.Outlines.{Entry, Outline}
use Rattle.law_obligations.specs.Cones.{AbsElement, elements, cone}
use Rattle.law_obligations.specs.Readings.{bits_of_all}
use Rattle.smv_problem.specs.WellFormed.{AreApartElements}
use Rattle.smv_problem.specs.Written.{written_element}
use Rattle.smv_elements.specs.Elements.{AreInOrder, HaveSame}
use Rattle.law_problems.specs.Order.{AreIndexed}
use Rattle.law_problems.specs.Adds.{Adds}

abbrev pub AreOf : World → List AbsElement → Type 0
AreOf w xs = (x : AbsElement) → Has xs x → Has (elements w) x

-- the same members
abbrev pub HaveAll : List AbsElement → List AbsElement → Type 0
HaveAll xs ys = ((x : AbsElement) → Has xs x → Has ys x) × ((x : AbsElement) → Has ys x → Has xs x)

-- elements of a case that are put are added
abbrev pub PutsAdd : Type 0
PutsAdd = (w : World) → AreIndexed w → (found put : List AbsElement) → AreOf w found → AreOf w put → AreApartElements found → (more : List AbsElement) × Adds found put more

-- in order they are the cone as it is written
abbrev pub SortedIsWritten : Type 0
SortedIsWritten = (w : World) (o : Outline) (entry : Entry) (params : List Place) → AreIndexed w → (found : List AbsElement) → HaveAll found (cone w o entry params) →
    (sorted : List Element) → AreInOrder sorted → HaveSame (map written_element found) sorted → sorted ≡ map written_element (cone w o entry params)

-- each has a bit
abbrev pub FoundHasBits : Type 0
FoundHasBits = (w : World) (found : List AbsElement) → length found ≤ bits_of_all w found

-- those of a cone, each once, have the bits of the cone
abbrev pub ConeHasBits : Type 0
ConeHasBits = (w : World) (o : Outline) (entry : Entry) (params : List Place) → AreIndexed w → (found : List AbsElement) → AreApartElements found → HaveAll found (cone w o entry params) →
    bits_of_all w found ≡ bits_of_all w (cone w o entry params)
