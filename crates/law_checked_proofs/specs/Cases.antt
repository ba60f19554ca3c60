-- The cases of all units of a text, in the order in which a document has their sets.
use Rattle.std.specs.Prelude.{ℕ, suc, List, [], ◌∷◌, ◌++◌}
use Rattle.smv_core.specs.declared.tree.Text.{Text}
use Rattle.smv_core.specs.declared.flat.Class.{Class}
use Rattle.law_obligations.specs.Outlines.{Entry, Script, unit_in}
use Rattle.law_obligations.specs.Readings.{PosedCase}
use Rattle.law_obligations.specs.Scripts.{case_at, classes_of}
use Rattle.law_splits.specs.Leaves.{name_of}
use Rattle.law_valid_texts.specs.Reports.{script_of_tree}

-- a case of a unit, by the unit's name as it is written and the number of the case, from 0, with its classes
pub record UnitCase : Type 0 where
  pub unit : List ℕ
  pub number : ℕ
  pub classes : List Class
  pub case : PosedCase

-- the cases of a unit, from a number on
abbrev pub cases_from : List ℕ → (List Class → PosedCase) → ℕ → List (List Class) → List UnitCase
cases_from unit case_for k [] = []
cases_from unit case_for k (classes ∷ more) = record { unit = unit; number = k; classes = classes; case = case_for classes } ∷ cases_from unit case_for (suc k) more

module _ (s : Script) where
  -- the name of a unit as it is written
  abbrev pub unit_name : Entry → List ℕ
  unit_name entry = name_of s.design (unit_in s.design entry.unit)

  -- the cases of the unit at a place
  abbrev pub cases_at : ℕ → Entry → List UnitCase
  cases_at u entry = cases_from (unit_name entry) (case_at s u entry) 0 (classes_of s entry)

  -- those of the units from a place on
  abbrev pub unit_cases_from : ℕ → List Entry → List UnitCase
  unit_cases_from u [] = []
  unit_cases_from u (entry ∷ entries) = cases_at u entry ++ unit_cases_from (suc u) entries

  -- those of all units
  abbrev pub unit_cases : List UnitCase
  unit_cases = unit_cases_from 0 s.entries

-- the cases of all units of a text
unfoldable pub cases_of : Text → List UnitCase
cases_of tree = unit_cases (script_of_tree tree)
