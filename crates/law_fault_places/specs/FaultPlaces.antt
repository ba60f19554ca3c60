-- Where the fault of a pass may stand, and which numbers it may have.
use Rattle.std.specs.Prelude.{◌≡◌, ◌≤◌, ℕ, List, true, nat_eq}
use Rattle.std.specs.List.{list_any}
use Rattle.smv_core.specs.declared.fault.Fault.{Fault}

-- a fault of one of these numbers, at a place of at most n
pub record IsFaultOf (numbers : List ℕ) (n : ℕ) (fault : Fault) : Type 0 where
  pub number : list_any (nat_eq fault.number) numbers ≡ true
  pub place : fault.at ≤ n
