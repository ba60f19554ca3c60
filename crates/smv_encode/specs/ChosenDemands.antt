-- Which of some demands, as they are written, are those of claims or of an element, and which of these move it.
use Rattle.std.specs.Prelude.{List, Bool, true, false}
use Rattle.smv_core.specs.declared.flat.Element.{Element}
use Rattle.law_obligations.specs.Places.{Place}
use Rattle.law_obligations.specs.Demands.{concerns_place}
use Rattle.smv_problem.specs.declared.problem.Demand.{Demand}
use Rattle.smv_problem.specs.declared.problem.Demand.TheVariants.{Defined, Holds}
use Rattle.smv_elements.specs.Elements.{same_element}

-- the body of a claim
abbrev pub is_held : Demand → Bool
is_held (Defined x init next comb) = false
is_held (Holds body bindings) = true

-- the definition of this element
abbrev pub is_of : Element → Demand → Bool
is_of x (Defined own init next comb) = same_element x own
is_of x (Holds body bindings) = false

-- some `next` of a definition concerns an element of these indexes
abbrev pub is_moving : List Place → Demand → Bool
is_moving ps (Defined own init next comb) = concerns_place next ps
is_moving ps (Holds body bindings) = false
