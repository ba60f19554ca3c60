-- What is met along a list, each member behind the assignments of those before it.
use Rattle.std.specs.Prelude.{ℕ, List, [], ◌∷◌, ◌++◌, Option}
use Rattle.smv_core.specs.declared.flat.FlatStmt.{FlatStmt}
use Rattle.law_designs.specs.Standing.{Standing, standing}
use Rattle.law_designs.specs.SingleFaults.{meet}
use Rattle.smv_look_assignments.specs.Assignments.{clashing, met}

module _ {A : Type 0} (places : List Standing → A → List ℕ) (assigned : A → List Standing) where
  abbrev pub along : List Standing → List A → List ℕ
  along before [] = []
  along before (x ∷ xs) = places before x ++ along (before ++ assigned x) xs

-- in a part of a block
abbrev pub part_met : ℕ → Option ℕ → List ℕ → List Standing → FlatStmt → List ℕ
part_met at layer around before part = met at layer around part ++ clashing at meet before (standing layer around part)

-- in the parts of a block that stand in a list
abbrev pub parts_met : ℕ → Option ℕ → List ℕ → List Standing → List FlatStmt → List ℕ
parts_met at layer around = along (part_met at layer around) (standing layer around)
