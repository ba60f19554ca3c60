use Rattle.std.proofs.Common.{◌∙◌, ap}
use Rattle.std.proofs.lemmas.Result.{IfOk-weaker}
use Rattle.smv_mentions.specs.FirstFault.{first_of}
use Rattle.smv_read_design.specs.Widths.{faults_of_widths}
use Rattle.smv_read_design.proofs.ReadLaws.{widths_found}
use Rattle.smv_read_design.proofs.designs.plan_fault.Goals as goal

pub returns : goal.returns
returns c =
    let plan = c.args.plan.now in
    IfOk-weaker c.width_fault.result _ _
    (λ fault found. widths_found c.widths_are_last.ensures c.args.text.now plan fault c.requires.faultless c.requires.plan
    (found ∙ (ap (λ l. first_of (faults_of_widths plan.design l c.as_slice-3.result.now)) c.as_slice-2.ensures ∙ ap (λ k. first_of (faults_of_widths plan.design plan.leaves k)) c.as_slice-3.ensures)))
    c.width_fault.ensures
