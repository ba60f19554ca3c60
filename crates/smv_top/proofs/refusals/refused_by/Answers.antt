use Rattle.law_lists.proofs.Options.{if_ok_both}
use Rattle.smv_top.proofs.DueLaws.{is_refused}
use Rattle.smv_top.proofs.refusals.refused_by.Goals as goal

pub returns-in-Fault : goal.returns-in-Fault
returns-in-Fault c =
    if_ok_both c.refused.result _ _ _ (λ a s b. is_refused c.args.text.now c.args.refusal c.in-Fault.fault a.status a.bytes.items c.in-Fault.is s b) c.refused.ensures.status c.refused.ensures.bytes
