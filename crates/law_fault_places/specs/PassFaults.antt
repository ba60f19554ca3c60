-- The number and the place of the first fault of all passes.
use Rattle.std.specs.Prelude.{◌≤◌, ℕ, IfSome}
use Rattle.smv_core.specs.declared.fault.Fault.{Fault}
use Rattle.smv_core.specs.declared.tree.Text.{Text}
use Rattle.law_valid_texts.specs.Faults.{pass_fault}
use Rattle.law_fault_places.specs.TreePlaces.{TextIsWithin}

-- a number of 1 to 31, and a place of at most n
pub record IsFaultWithin (n number at : ℕ) : Type 0 where
  pub lowest : 1 ≤ number
  pub highest : number ≤ 31
  pub place : at ≤ n

-- the first fault of all passes stands among the places of the tree
abbrev pub PassFaultsAreWithin : Type 0
PassFaultsAreWithin = (n : ℕ) (tree : Text) → TextIsWithin n tree → IfSome (pass_fault tree) (λ (fault : Fault). IsFaultWithin n fault.number fault.at)
