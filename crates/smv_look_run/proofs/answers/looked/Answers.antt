use Rattle.law_lists.proofs.Options.{if_ok_both}
use Rattle.smv_problem.specs.declared.report.Plan.{Plan}
use Rattle.smv_read_design.specs.Answers.{IsFaultOf}
use Rattle.smv_look_run.specs.Dues.{faulty}
use Rattle.smv_look_run.proofs.Endings.{due_fault}
use Rattle.smv_look_run.proofs.DueLaws.{fault_of, whole_of}
use Rattle.smv_look_run.proofs.answers.looked.Goals as goal

pub told-requires-clause-whole : goal.told-requires-clause-whole
told-requires-clause-whole c = whole_of c.plans_of_valid_texts_are_whole.ensures c.args.text.now c.in-Ok.plan c.in-Ok.ensures.plan

pub returns-in-Err-Fault : goal.returns-in-Err-Fault
returns-in-Err-Fault c =
    let bad = fault_of Plan _ c.in-Err-Fault.fault (IsFaultOf c.args.text.now) c.in-Err-Fault.field-0-is (rw c.in-Err-Fault.is at c.read_design.ensures.fault) in
    if_ok_both c.refused.result _ _ _ (λ a s b. due_fault c.args.query.now c.args.text.now c.in-Err-Fault.fault.number c.in-Err-Fault.fault.at a.status a.bytes.items (faulty c.in-Err-Fault.fault bad) s b)
    c.refused.ensures.status c.refused.ensures.bytes
