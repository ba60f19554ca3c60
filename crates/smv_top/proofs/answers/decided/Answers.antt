use Rattle.std.proofs.Common.{◌≡◌, ◌<◌, length, arith, true}
use Rattle.law_lists.proofs.Options.{if_ok_both}
use Rattle.smv_problem.specs.declared.report.Report.{Report}
use Rattle.smv_command.specs.declared.commands.Command.{Command}
use Rattle.smv_answers.specs.Dues.{IsFault, decides, limit}
use Rattle.smv_top.proofs.DueLaws.{due_report, due_fault, due_length, fault_of}
use Rattle.smv_top.proofs.answers.decided.Goals as goal

pub returns-then-text-gt-LIMIT : goal.returns-then-text-gt-LIMIT
returns-then-text-gt-LIMIT c =
    let long : limit < length c.args.text.now = grind (arith, c.if-text-gt-LIMIT.true) in
    if_ok_both c.refused.result _ _ _ (λ a s b. due_length c.args.command.now c.args.text.now a.status a.bytes.items c.requires.own long s b) c.refused.ensures.status c.refused.ensures.bytes

pub returns-in-Ok : goal.returns-in-Ok
returns-in-Ok c =
    if_ok_both c.reported.result _ _ _ (λ a s b. due_report c.args.command.now c.args.text.now c.in-Ok.report a.status a.bytes.items (c.requires.asks c.in-Ok.report c.in-Ok.ensures.report) s b)
    c.reported.ensures.status c.reported.ensures.bytes

pub returns-in-Err-Fault : goal.returns-in-Err-Fault
returns-in-Err-Fault c =
    let bad = fault_of Report _ c.in-Err-Fault.fault (λ f. (command : Command) → decides command ≡ true → IsFault command c.args.text.now f.number f.at) c.in-Err-Fault.field-0-is (rw c.in-Err-Fault.is at c.prove.ensures.fault) in
    if_ok_both c.refused-in-Err-Fault.result _ _ _ (λ a s b. due_fault c.args.command.now c.args.text.now c.in-Err-Fault.fault.number c.in-Err-Fault.fault.at a.status a.bytes.items c.requires.own (bad c.args.command.now c.requires.decides) s b)
    c.refused-in-Err-Fault.ensures.status c.refused-in-Err-Fault.ensures.bytes
