-- The numbers of the names of a design, as they are made once for all its units.
use Rattle.std.specs.Prelude.{◌≡◌, map}
use Rattle.smv_core.specs.declared.flat.Design.{Design}
use Rattle.smv_problem.specs.Written.{name_number, set_numbers_of}
use Rattle.smv_plan_reports.specs.declared.units.Numbers.{Numbers}

-- those of its constants, list by list, and of its set types
pub record AreNumbers (d : Design) (n : Numbers) : Type 0 where
  pub names : n.names ≡ map (map (name_number d.enums)) d.enums
  pub set_names : n.set_names ≡ set_numbers_of d.sets
