-- Lists of functions in which elements are worked out.
use Rattle.std.specs.Prelude.{◌≡◌, ℕ, List, map}
use Rattle.law_obligations.specs.Cones.{AbsElement}
use Rattle.law_obligations.specs.Readings.{PosedCase}
use Rattle.law_arrangements.specs.Arrangements.{IsArrangement}
use Rattle.law_arrangements.specs.ArrangedLists.{lists_over}
use Rattle.law_arrangements.specs.Orders.{wired}
use Rattle.smv_core.specs.declared.flat.Element.{Element}
use Rattle.smv_problem.specs.Written.{written_element}
use Rattle.smv_rings.specs.Lists.{Lists}

-- these are the lists of a case whose bits stand in this order, where these elements, as they are written, are worked out
abbrev pub AreWired : List ℕ → List Element → Lists → PosedCase → Type 0
AreWired order wires l c = (xs : List AbsElement) × (wires ≡ map written_element xs) × IsArrangement c (wired order xs) × (l ≡ lists_over c (wired order xs))
