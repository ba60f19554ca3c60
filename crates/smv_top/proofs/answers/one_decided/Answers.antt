use Rattle.std.proofs.Common.{◌≡◌, ◌<◌, length, arith, subst, true, Option}
use Rattle.law_lists.proofs.Options.{if_ok_both}
use Rattle.smv_problem.specs.declared.report.Report.{Report}
use Rattle.smv_command.specs.declared.commands.Command.{Command}
use Rattle.smv_answers.specs.Reports.{IsUnitReport, HasNoUnit}
use Rattle.smv_answers.specs.Dues.{IsFault, decides, limit}
use Rattle.smv_top.proofs.DueLaws.{due_report, due_fault, due_length, due_no_unit, report_of_unit, decides_one, own_one, fault_of}
use Rattle.smv_top.proofs.answers.one_decided.Goals as goal

pub returns-then-text-gt-LIMIT : goal.returns-then-text-gt-LIMIT
returns-then-text-gt-LIMIT c =
    let long : limit < length c.args.text.now = grind (arith, c.if-text-gt-LIMIT.true) in
    if_ok_both c.refused.result _ _ _ (λ a s b. due_length c.args.command.now c.args.text.now a.status a.bytes.items (own_one c.args.command.now _ _ _ c.requires.asks) long s b) c.refused.ensures.status c.refused.ensures.bytes

pub returns-in-Ok-Some : goal.returns-in-Ok-Some
returns-in-Ok-Some c =
    let unit = subst (λ name. IsUnitReport c.args.text.now name c.args.bits c.args.budgets.nodes c.args.budgets.steps c.in-Ok-Some.report) c.as_bytes.ensures (c.in-Ok-Some.ensures.report c.in-Ok-Some.report c.in-Ok-Some.field-0-is) in
    if_ok_both c.reported.result _ _ _
    (λ a s b. due_report c.args.command.now c.args.text.now c.in-Ok-Some.report a.status a.bytes.items (report_of_unit c.args.command.now c.args.text.now _ c.args.bits c.args.budgets c.in-Ok-Some.report c.requires.asks unit) s b)
    c.reported.ensures.status c.reported.ensures.bytes

pub returns-in-Ok-None : goal.returns-in-Ok-None
returns-in-Ok-None c =
    let none = subst (λ name. HasNoUnit c.args.text.now name) c.as_bytes.ensures (c.in-Ok-None.ensures.none c.in-Ok-None.field-0-is) in
    if_ok_both c.refused-in-Ok-None.result _ _ _ (λ a s b. due_no_unit c.args.command.now c.args.text.now _ c.args.bits c.args.budgets a.status a.bytes.items c.requires.asks none s b) c.refused-in-Ok-None.ensures.status c.refused-in-Ok-None.ensures.bytes

pub returns-in-Err-Fault : goal.returns-in-Err-Fault
returns-in-Err-Fault c =
    let bad = fault_of (Option Report) _ c.in-Err-Fault.fault (λ f. (command : Command) → decides command ≡ true → IsFault command c.args.text.now f.number f.at) c.in-Err-Fault.field-0-is (rw c.in-Err-Fault.is at c.prove_one.ensures.fault) in
    if_ok_both c.refused-in-Err-Fault.result _ _ _
    (λ a s b. due_fault c.args.command.now c.args.text.now c.in-Err-Fault.fault.number c.in-Err-Fault.fault.at a.status a.bytes.items (own_one c.args.command.now _ _ _ c.requires.asks) (bad c.args.command.now (decides_one c.args.command.now _ _ _ c.requires.asks)) s b)
    c.refused-in-Err-Fault.ensures.status c.refused-in-Err-Fault.ensures.bytes
