use Rattle.std.proofs.Common.{◌≡◌, ◌≤◌, ◌<◌, ℕ, List, length, arith, subst, true}
use Rattle.law_lists.proofs.Options.{if_ok_both}
use Rattle.law_judgements.specs.Judgements.{IsFaultOf, too_long}
use Rattle.smv_bits.specs.declared.Bits.TheVariants.{Declared}
use Rattle.smv_problem.specs.declared.report.Report.{Report}
use Rattle.smv_command.specs.declared.commands.Command.{Command}
use Rattle.smv_answers.specs.Dues.{IsFault, decides, limit}
use Rattle.smv_answers.specs.Reports.{IsRightReport}
use Rattle.smv_strengthen.specs.Answers.{shown}
use Rattle.smv_top.proofs.DocumentLaws.{text_fault}
use Rattle.smv_top.proofs.DueLaws.{fault_of}
use Rattle.smv_top.proofs.InductLaws.{due_inducted, due_refused_stronger, placed}
use Rattle.smv_top.proofs.inductions.of_stronger.Goals as goal

pub returns-then-bytes-gt-LIMIT : goal.returns-then-bytes-gt-LIMIT
returns-then-bytes-gt-LIMIT c =
    let long : limit < length c.as_slice-bytes.result.now = grind (arith, c.if-bytes-gt-LIMIT.true) in
    let over = too_long (subst (λ (b : List ℕ). limit < length b) c.as_slice-bytes.ensures long) in
    if_ok_both c.refused_back.result _ _ _
    (λ a s b. due_refused_stronger c.args.text.now c.args.name.now c.args.var.now c.args.budgets a.status a.bytes.items c.requires.valid.0 (shown c.args.stronger.now) 31 0 c.requires.valid.1 c.requires.stronger over s b)
    c.refused_back.ensures.status c.refused_back.ensures.bytes

pub returns-in-Ok : goal.returns-in-Ok
returns-in-Ok c =
    let right = subst (λ (b : List ℕ). IsRightReport b Declared c.args.budgets.nodes c.args.budgets.steps c.in-Ok.report) c.as_slice-bytes.ensures c.in-Ok.ensures.report in
    if_ok_both c.reported.result _ _ _
    (λ a s b. due_inducted c.args.text.now c.args.name.now c.args.var.now c.args.budgets a.status a.bytes.items c.args.command.now c.requires.valid.0 (shown c.args.stronger.now) c.in-Ok.report c.requires.asks c.requires.valid.1 c.requires.stronger right s b)
    c.reported.ensures.status c.reported.ensures.bytes

pub refused_back-requires-in-Err-Fault-clause-place : goal.refused_back-requires-in-Err-Fault-clause-place
refused_back-requires-in-Err-Fault-clause-place c =
    let bad = fault_of Report _ c.in-Err-Fault.fault (λ f. (command : Command) → decides command ≡ true → IsFault command c.as_slice-bytes.result.now f.number f.at) c.in-Err-Fault.field-0-is (rw c.in-Err-Fault.is at c.prove.ensures.fault) in
    subst (λ (b : List ℕ). c.in-Err-Fault.fault.at ≤ length b) c.as_slice-bytes.ensures (placed c.faults_are_within.ensures c.as_slice-bytes.result.now c.in-Err-Fault.fault.number c.in-Err-Fault.fault.at bad)

pub returns-in-Err-Fault : goal.returns-in-Err-Fault
returns-in-Err-Fault c =
    let bad = fault_of Report _ c.in-Err-Fault.fault (λ f. (command : Command) → decides command ≡ true → IsFault command c.as_slice-bytes.result.now f.number f.at) c.in-Err-Fault.field-0-is (rw c.in-Err-Fault.is at c.prove.ensures.fault) in
    let fault = subst (λ (b : List ℕ). IsFaultOf b c.in-Err-Fault.fault.number c.in-Err-Fault.fault.at) c.as_slice-bytes.ensures (text_fault c.as_slice-bytes.result.now c.in-Err-Fault.fault bad) in
    if_ok_both c.refused_back-in-Err-Fault.result _ _ _
    (λ a s b. due_refused_stronger c.args.text.now c.args.name.now c.args.var.now c.args.budgets a.status a.bytes.items c.requires.valid.0 (shown c.args.stronger.now) c.in-Err-Fault.fault.number c.in-Err-Fault.fault.at c.requires.valid.1
    c.requires.stronger fault s b)
    c.refused_back-in-Err-Fault.ensures.status c.refused_back-in-Err-Fault.ensures.bytes
