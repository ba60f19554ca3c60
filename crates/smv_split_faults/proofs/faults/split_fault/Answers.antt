use Rattle.std.proofs.Common.{◌∙◌, ap}
use Rattle.std.specs.Prelude.{Option}
use Rattle.smv_core.specs.declared.fault.Fault.{Fault}
use Rattle.smv_first_fault.specs.Firsts.{fault_at, earlier_of}
use Rattle.smv_split_faults.proofs.AnswerLaws.{fault-is}
use Rattle.smv_split_faults.proofs.faults.split_fault.Goals as goal

pub returns : goal.returns
returns c =
    let d = c.in_ok-tables.tables.design.now in
    c.earlier.ensures ∙ (ap (λ (f : Option Fault). earlier_of f c.fault_at-2.result) c.fault_at.ensures ∙ (ap (earlier_of (fault_at 23 c.in_ok-lost.lost)) (c.fault_at-2.ensures ∙ ap (fault_at 24) c.first_of.ensures)
    ∙ fault-is c.args.design.now d c.as_slice.result.now c.as_slice-splits.result.now c.args.units.now c.in_ok-lost.lost c.in_ok-mismatch.mismatch c.in_ok-misfit.misfit
    c.in_ok-tables.ensures.same c.as_slice.ensures c.as_slice-splits.ensures c.requires c.in_ok-lost.ensures c.in_ok-mismatch.ensures c.in_ok-misfit.ensures))
