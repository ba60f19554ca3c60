use Rattle.std.proofs.Common.{◌≡◌, ◌≤◌, ℕ, List, length, subst, sym, true}
use Rattle.law_lists.proofs.Options.{if_ok_both}
use Rattle.law_judgements.specs.Judgements.{IsFaultOf}
use Rattle.smv_problem.specs.declared.report.Report.{Report}
use Rattle.smv_command.specs.declared.commands.Command.{Command}
use Rattle.smv_answers.specs.Dues.{IsFault, decides, limit}
use Rattle.smv_answers.specs.Reports.{IsRightReport}
use Rattle.smv_ltl.specs.Answers.{shown}
use Rattle.smv_top.proofs.DocumentLaws.{text_fault}
use Rattle.smv_top.proofs.DueLaws.{fault_of}
use Rattle.smv_top.proofs.FormulaLaws.{due_refused_translation, due_translated}
use Rattle.smv_top.proofs.InductLaws.{placed}
use Rattle.smv_top.proofs.formulas.of_translation.Goals as goal

pub prove-requires-clause-within : goal.prove-requires-clause-within
prove-requires-clause-within c = subst (λ (b : List ℕ). length b ≤ limit) (sym c.as_slice-bytes.ensures) c.requires.translated.fits

pub returns-in-Ok : goal.returns-in-Ok
returns-in-Ok c =
    let right = subst (λ (b : List ℕ). IsRightReport b c.args.bits c.args.budgets.nodes c.args.budgets.steps c.in-Ok.report) c.as_slice-bytes.ensures c.in-Ok.ensures.report in
    if_ok_both c.reported.result _ _ _
    (λ a s b. due_translated c.args.text.now c.args.bits c.args.budgets a.status a.bytes.items c.args.command.now (shown c.args.translation.now) c.in-Ok.report c.requires.asks c.requires.translated right s b)
    c.reported.ensures.status c.reported.ensures.bytes

pub refused_back-requires-clause-place : goal.refused_back-requires-clause-place
refused_back-requires-clause-place c =
    let bad = fault_of Report _ c.in-Err-Fault.fault (λ f. (command : Command) → decides command ≡ true → IsFault command c.as_slice-bytes.result.now f.number f.at) c.in-Err-Fault.field-0-is (rw c.in-Err-Fault.is at c.prove.ensures.fault) in
    subst (λ (b : List ℕ). c.in-Err-Fault.fault.at ≤ length b) c.as_slice-bytes.ensures (placed c.faults_are_within.ensures c.as_slice-bytes.result.now c.in-Err-Fault.fault.number c.in-Err-Fault.fault.at bad)

pub returns-in-Err-Fault : goal.returns-in-Err-Fault
returns-in-Err-Fault c =
    let bad = fault_of Report _ c.in-Err-Fault.fault (λ f. (command : Command) → decides command ≡ true → IsFault command c.as_slice-bytes.result.now f.number f.at) c.in-Err-Fault.field-0-is (rw c.in-Err-Fault.is at c.prove.ensures.fault) in
    let fault = subst (λ (b : List ℕ). IsFaultOf b c.in-Err-Fault.fault.number c.in-Err-Fault.fault.at) c.as_slice-bytes.ensures (text_fault c.as_slice-bytes.result.now c.in-Err-Fault.fault bad) in
    if_ok_both c.refused_back.result _ _ _
    (λ a s b. due_refused_translation c.args.text.now c.args.bits c.args.budgets a.status a.bytes.items (shown c.args.translation.now) c.in-Err-Fault.fault.number c.in-Err-Fault.fault.at c.requires.translated fault s b)
    c.refused_back.ensures.status c.refused_back.ensures.bytes
