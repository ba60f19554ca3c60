-- Leaves that are to be decided.
use Rattle.std.specs.Prelude.{◌≡◌, List}
use Rattle.smv_core.specs.declared.flat.Class.{Class}
use Rattle.law_obligations.specs.Units.{units_of}
use Rattle.law_obligations.specs.Readings.{PosedCase}
use Rattle.law_problems.specs.Parts.{IsPart, case_with, outlined}
use Rattle.smv_chosen_table.specs.Tables.{IsTable}
use Rattle.smv_decide.specs.declared.tasks.Task.{Task}

-- the leaf and its choice are as the passes give them, and the units and the table are those of the two
pub record IsTask (t : Task) : Type 0 where
  pub units : t.units.now ≡ units_of t.design.now
  pub part : IsPart t.design.now t.leaf.now t.choice.now
  pub table : IsTable (outlined t.design.now) t.choice.now.picks t.table.now

-- the leaf's case of these classes
abbrev pub case_in : Task → List Class → PosedCase
case_in t classes = case_with t.design.now t.leaf.now t.choice.now t.timed.now classes
