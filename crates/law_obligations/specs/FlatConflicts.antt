-- The rule of conflicts for the definition of a family, pair by pair: two assignments in different branches or parts differ at an index in two
-- constants, or each `forall` variable around both stands alone at one index of both (a choice of this project).
use Rattle.std.specs.Prelude.{◌≡◌, ◌<◌, ◌≤◌, ◌⊎◌, ℕ, suc, List, zip, length, true}
use Rattle.std.specs.List.{list_any}
use Rattle.smv_core.specs.Assignments.{Index}
use Rattle.smv_core.specs.Conflicts.{are_two_constants, are_both}
use Rattle.smv_core.specs.FlatMeaning.{indexes_assigned, indexes_assigned_in}
use Rattle.smv_core.specs.declared.flat.Def.{Def}
use Rattle.smv_core.specs.declared.flat.DefBody.{DefBody, Nothing, Assign, If', First', Forall', Row_of-DefBody, end_of-DefBody, more_of-DefBody}
use Rattle.law_obligations.specs.Sets.{Has}
use Rattle.law_obligations.specs.Bound.{HasVariable}

-- two left sides differ in two constants, or share each of so many variables
abbrev pub AreExcused : ℕ → List Index → List Index → Type 0
AreExcused around is js = (list_any (λ (i, j). are_two_constants i j) (zip is js) ≡ true) ⊎ ((k : ℕ) → k < around → list_any (λ (i, j). are_both k i j) (zip is js) ≡ true)

-- so it is for each of the first and each of the second left sides
abbrev pub EachTwo : ℕ → List (List Index) → List (List Index) → Type 0
EachTwo around iss jss = (is js : List Index) → Has iss is → Has jss js → AreExcused around is js

abbrev mutual
  -- under so many variables, for a family with so many indexes: no two assignments conflict, and each has the variables around it as indexes of their own
  pub HasNoConflict : ℕ → ℕ → DefBody → Type 0
  HasNoConflict around count Nothing = Unit {0}
  HasNoConflict around count (Assign left value place at) = (length left ≤ count) × ((k : ℕ) → k < around → HasVariable k count (Assign left value place at))
  HasNoConflict around count (If' cond l (more_of-DefBody left end_of-DefBody) r (more_of-DefBody right end_of-DefBody)) =
      HasNoConflict around count left × HasNoConflict around count right × EachTwo around (indexes_assigned left) (indexes_assigned right)
  HasNoConflict around count (First' shape parts) = HaveNoConflict around count parts
  HasNoConflict around count (Forall' var over shape (more_of-DefBody body end_of-DefBody)) = (var ≡ around) × HasNoConflict (suc around) count body

  pub HaveNoConflict : {m : _} → ℕ → ℕ → Row_of-DefBody m → Type 0
  HaveNoConflict around count end_of-DefBody = Unit {0}
  HaveNoConflict around count (more_of-DefBody part others) =
      HasNoConflict around count part × HaveNoConflict around count others × EachTwo around (indexes_assigned part) (indexes_assigned_in others)

-- so it is for the three parts of a definition
pub record IsConflictFree (count : ℕ) (def : Def) : Type 0 where
  pub init : HasNoConflict 0 count def.init
  pub next : HasNoConflict 0 count def.next
  pub comb : HasNoConflict 0 count def.comb
