-- Which demands define an element, as they are written.
use Rattle.std.specs.Prelude.{List, Bool, false}
use Rattle.smv_core.specs.declared.flat.Element.{Element}
use Rattle.law_obligations.specs.Sets.{Has}
use Rattle.law_obligations.specs.Obligations.{Demanded}
use Rattle.law_obligations.specs.Readings.{PosedCase}
use Rattle.smv_problem.specs.declared.problem.Demand.{Demand}
use Rattle.smv_problem.specs.declared.problem.Demand.TheVariants.{Defined, Holds}
use Rattle.smv_elements.specs.Elements.{same_element}

-- the definition of this element
abbrev pub is_of : Element → Demand → Bool
is_of x (Defined own init next comb) = same_element x own
is_of x (Holds body bindings) = false

-- demands of now
abbrev pub AreOfNow : PosedCase → List Demanded → Type 0
AreOfNow c ds = (d : Demanded) → Has ds d → Has c.problem.now d
