-- The bits of found elements.
use Rattle.std.proofs.Common.{◌≡◌, ◌≤◌, List, [], ◌∷◌, map, length, true, sym, subst, arith}
use Rattle.law_obligations.proofs.Members.{Has-map}
use Rattle.law_obligations.specs.Places.{Place, World}
use Rattle.law_obligations.specs.Outlines.{Entry, Outline}
use Rattle.law_obligations.specs.Cones.{AbsElement, cone}
use Rattle.law_obligations.specs.Readings.{values_of, bits_of_all}
use Rattle.law_obligations.proofs.Codes.{bits_are}
use Rattle.law_problems.specs.Order.{AreIndexed}
use Rattle.law_problems.proofs.Orders.{no_more_bits}
use Rattle.smv_problem.specs.WellFormed.{AreApartElements}
use Rattle.smv_problem.specs.Written.{written_element}
use Rattle.smv_elements.specs.Elements.{is_before, AreInOrder}
use Rattle.smv_elements.proofs.Keys.{before-apart}
use Rattle.law_problems.specs.FoundLaws.{HaveAll}
use Rattle.law_problems.proofs.Sorting.{cone-in-order}

pub found-bits : (w : World) (found : List AbsElement) → length found ≤ bits_of_all w found
found-bits w [] = omega arith
found-bits w (x ∷ found) = let one = (bits_are (length (values_of w x))).some in let rest = found-bits w found in omega (arith, one, rest)

-- what is in order as it is written is apart
apart-in-order : (xs : List AbsElement) → AreInOrder (map written_element xs) → AreApartElements xs
apart-in-order [] s = tt
apart-in-order (x ∷ xs) s = (
  λ y h e. absurd (before-apart (written_element x) (subst (λ z. is_before (written_element x) (written_element z) ≡ true) (sym e) (s.0 (written_element y) (Has-map written_element h)))),
  apart-in-order xs s.1,
)

pub cone-bits : (w : World) (o : Outline) (entry : Entry) (params : List Place) → AreIndexed w → (found : List AbsElement) → AreApartElements found → HaveAll found (cone w o entry params) → bits_of_all w found ≡ bits_of_all w (cone w o entry params)
cone-bits w o entry params indexed found apart all =
    let fewer = no_more_bits w found (cone w o entry params) apart all.0 in
    let more = no_more_bits w (cone w o entry params) found (apart-in-order (cone w o entry params) (cone-in-order w o entry params indexed)) all.1 in
    omega (arith, fewer, more)
