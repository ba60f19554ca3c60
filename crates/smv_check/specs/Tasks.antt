-- Leaves whose cases are looked at.
use Rattle.std.specs.Prelude.{◌≡◌, ◌≤◌, ℕ, true, List, length}
use Rattle.std.specs.List.{list_all}
use Rattle.smv_core.specs.declared.flat.Class.{Class}
use Rattle.law_obligations.specs.Units.{units_of}
use Rattle.law_obligations.specs.Readings.{PosedCase}
use Rattle.law_problems.specs.Parts.{IsPart, case_with, outlined}
use Rattle.smv_chosen_table.specs.Tables.{IsTable}
use Rattle.smv_proof.specs.Documents.{most, is_set}
use Rattle.law_checked_proofs.specs.Cases.{UnitCase}
use Rattle.smv_check.specs.declared.cases.Task.{Task}

-- the leaf and its choice are as the passes give them, the units and the table are those of the two, and the sets are those of a document
pub record IsTask (t : Task) : Type 0 where
  pub units : t.units.now ≡ units_of t.design.now
  pub part : IsPart t.design.now t.leaf.now t.choice.now
  pub table : IsTable (outlined t.design.now) t.choice.now.picks t.table.now
  pub sets : list_all is_set t.sets.now ≡ true
  pub few : length t.sets.now ≤ most

-- the leaf's case of these classes
abbrev pub case_in : Task → List Class → PosedCase
case_in t classes = case_with t.design.now t.leaf.now t.choice.now t.timed.now classes

-- the same with the leaf's name and the case's number
abbrev pub unit_case : Task → ℕ → List Class → UnitCase
unit_case t number classes = record { unit = t.name.now; number = number; classes = classes; case = case_in t classes }
