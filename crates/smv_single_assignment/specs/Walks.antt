-- What is found in statements.
use Rattle.std.specs.Prelude.{◌≡◌, ◌+◌, ℕ, List, length}
use Rattle.smv_first_fault.specs.Firsts.{least}
use Rattle.law_designs.specs.Standing.{Standing}
use Rattle.smv_single_assignment.specs.declared.conflicts.Walked.{Walked}

-- the first of these places, and the place behind these assignments from a place on
pub record IsWalked (start : ℕ) (places : List ℕ) (assigned : List Standing) (walked : Walked) : Type 0 where
  pub found_is : walked.found ≡ least places
  pub end_is : walked.end ≡ start + length assigned
