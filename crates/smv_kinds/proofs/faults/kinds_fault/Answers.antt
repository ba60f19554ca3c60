use Rattle.std.proofs.Common.{◌≡◌, IfOk, subst}
use Rattle.smv_core.specs.declared.tree.Text.{Text}
use Rattle.law_designs.specs.KindFaults.{first_fault_of_kinds}
use Rattle.smv_kinds.proofs.faults.kinds_fault.Goals as goal

pub returns : goal.returns
returns c = subst (λ (text : Text). IfOk c.first_fault.result (λ fault. fault ≡ first_fault_of_kinds text)) c.in_ok-tables.ensures.text c.first_fault.ensures
