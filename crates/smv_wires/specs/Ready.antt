-- Whether a demand, as it is written, leaves an element to be worked out from those with cells.
use Rattle.std.specs.Prelude.{List, Bool, true, false, not, ◌&&◌, ◌||◌}
use Rattle.smv_core.specs.declared.flat.Element.{Element}
use Rattle.smv_core.specs.declared.flat.DefBody.{DefBody}
use Rattle.law_obligations.specs.Places.{Place}
use Rattle.law_obligations.specs.Demands.{concerns_place}
use Rattle.smv_problem.specs.declared.problem.Demand.{Demand}
use Rattle.smv_problem.specs.declared.problem.Demand.TheVariants.{Defined, Holds}
use Rattle.smv_elements.specs.Elements.{same_element}
use Rattle.smv_may_read.specs.Mentions.{mentions_inside}

-- some `:=` concerns the element of these indexes, and none that may be of it mentions one of these elements
abbrev pub is_ready_by : List Element → Element → List Place → DefBody → Bool
is_ready_by tried x ps comb = concerns_place comb ps && not (mentions_inside tried x.indexes false comb)

-- a demand does not define the element, or does so in this way
abbrev pub is_ready_for : List Element → Element → List Place → Demand → Bool
is_ready_for tried x ps (Defined own init next comb) = not (same_element x own) || is_ready_by tried x ps comb
is_ready_for tried x ps (Holds body bindings) = true
