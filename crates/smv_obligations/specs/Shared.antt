-- What the problems of all cases of a design have in common.
use Rattle.std.specs.Prelude.{◌≡◌, map, length}
use Rattle.smv_core.specs.declared.flat.Design.{Design}
use Rattle.smv_problem.specs.Written.{name_number, set_numbers_of, orders_of}
use Rattle.smv_problem.specs.declared.problem.Problem.{Problem}
use Rattle.smv_obligations.specs.declared.shared.Shared.{Shared}
use Rattle.smv_obligations.specs.declared.shared.ProblemParts.{ProblemParts}

-- the families of the design, the lengths of its enumerations, the numbers of names, and which set types are ordsets
pub record IsShared (d : Design) (s : Shared) : Type 0 where
  pub families : s.families ≡ d.families
  pub lists : s.lists ≡ map length d.enums
  pub names : s.names ≡ map (map (name_number d.enums)) d.enums
  pub set_names : s.set_names ≡ set_numbers_of d.sets
  pub ordered : s.ordered ≡ orders_of d.sets

-- that of a problem
abbrev pub shared_in : Problem → Shared
shared_in p = record { families = p.families; lists = p.lists; names = p.names; set_names = p.set_names; ordered = p.ordered }

-- its elements, and that of it
abbrev pub parts_in : Problem → ProblemParts
parts_in p = record { elements = p.elements; shared = shared_in p }
