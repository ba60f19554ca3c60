-- What the call that confirms gives, and what it refuses.
use Rattle.std.specs.Prelude.{◌≡◌, ◌≤◌, ℕ, List, Some}
use Rattle.smv_core.specs.declared.fault.Fault.{Fault}
use Rattle.smv_core.specs.declared.flat.Unit.{Unit}
use Rattle.smv_core.specs.declared.tree.Text.{Text}
use Rattle.smv_bits.specs.declared.Bits.{Bits}
use Rattle.law_obligations.specs.Outlines.{unit_in}
use Rattle.law_obligations.specs.Sets.{Has}
use Rattle.law_splits.specs.Leaves.{own_params}
use Rattle.law_valid_texts.specs.Joined.{flat_design}
use Rattle.law_valid_texts.specs.Reports.{IsValid}
use Rattle.law_confirmed.specs.Answers.{IsConfirmed, IsUnitFault, unit_called}
use Rattle.smv_read_design.specs.Answers.{IsFaultOf}
use Rattle.smv_confirm.specs.declared.Confirmed.{Confirmed}

-- each size is from 1 to 256
abbrev pub AreInRange : List ℕ → Type 0
AreInRange given = (k : ℕ) → Has given k → (1 ≤ k) × (k ≤ 256)

-- what is told of the unit of this name at these sizes, over bits that stand so, with the design and the unit's own parameters
pub record IsConfirmation (text name given : List ℕ) (bits : Bits) (nodes steps : ℕ) (c : Confirmed) : Type 0 where
  pub is_confirmed : IsConfirmed text name given bits nodes steps c.verdict
  pub tree : Text
  pub is_valid : IsValid text tree
  pub design : c.design ≡ flat_design tree
  pub unit : Unit
  pub is_called : unit_called (flat_design tree) name ≡ Some unit
  pub params : c.params ≡ own_params (flat_design tree) (unit_in (flat_design tree) unit)

-- what is refused: the first fault of the text, or else that of the unit
pub data IsConfirmFault (text name given : List ℕ) (fault : Fault) : Type 0 where
  of_text : IsFaultOf text fault → IsConfirmFault text name given fault
  of_unit : IsUnitFault text name given fault.number fault.at → IsConfirmFault text name given fault
