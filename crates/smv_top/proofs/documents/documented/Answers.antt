use Rattle.std.proofs.Common.{◌≡◌, ◌<◌, length, arith, true, subst}
use Rattle.law_lists.proofs.Options.{if_ok_both}
use Rattle.law_judgements.specs.Judgements.{too_long}
use Rattle.smv_command.specs.declared.commands.Command.{Command}
use Rattle.smv_command.specs.declared.commands.Command.TheVariants.{Proof}
use Rattle.smv_answers.specs.Dues.{IsDue, IsFault, decides, limit}
use Rattle.smv_resume.specs.declared.Kept.{Kept}
use Rattle.smv_resume.specs.Resumed.{IsResumed}
use Rattle.smv_top.proofs.DueLaws.{due_by_refusal}
use Rattle.smv_top.proofs.DocumentLaws.{due_documented, due_open, due_refused_text, open_documented, text_fault}
use Rattle.smv_top.proofs.documents.documented.Goals as goal

pub returns-then-text-gt-LIMIT : goal.returns-then-text-gt-LIMIT
returns-then-text-gt-LIMIT c =
    let long : limit < length c.args.text.now = grind (arith, c.if-text-gt-LIMIT.true) in
    if_ok_both c.refused.result _ _ _ (λ a s b. due_refused_text c.args.budgets c.args.text.now a.status a.bytes.items 31 0 (too_long long) s b) c.refused.ensures.status c.refused.ensures.bytes

pub returns-in-Ok-All : goal.returns-in-Ok-All
returns-in-Ok-All c =
    let kept = subst (IsResumed _ c.args.budgets.nodes c.args.budgets.steps c.args.text.now) c.in-Ok-All.field-0-is c.in-Ok-All.ensures.kept in
    let is = (c.resumed_proofs_are_checked.ensures.nothing c.args.text.now c.args.budgets.nodes c.args.budgets.steps c.in-Ok-All.proof).0 kept in
    if_ok_both c.documented.result _ _ _ (λ a s b. due_documented c.args.budgets c.args.text.now a.status a.bytes.items c.in-Ok-All.proof is s b) c.documented.ensures.status c.documented.ensures.bytes

pub returns-in-Ok-Open : goal.returns-in-Ok-Open
returns-in-Ok-Open c =
    let kept = subst (IsResumed _ c.args.budgets.nodes c.args.budgets.steps c.args.text.now) c.in-Ok-Open.field-0-is c.in-Ok-Open.ensures.kept in
    let is = (c.resumed_proofs_are_checked.ensures.reports c.args.text.now c.args.budgets.nodes c.args.budgets.steps c.in-Ok-Open.report).0 kept.0 in
    if_ok_both c.reported.result _ _ _
    (λ a s b. due_open c.args.budgets c.args.text.now a.status a.bytes.items c.in-Ok-Open.report is (open_documented c.in-Ok-Open.report kept.1) s b)
    c.reported.ensures.status c.reported.ensures.bytes

pub returns-in-Err : goal.returns-in-Err
returns-in-Err c =
    if_ok_both c.refused_by.result _ _ _
    (λ a s b. due_by_refusal Kept c.args.text.now c.in-Err.refusal (λ f. (command : Command) → decides command ≡ true → IsFault command c.args.text.now f.number f.at) (IsDue (Proof c.args.budgets) c.args.text.now)
    (λ f bad st an e g. due_refused_text c.args.budgets c.args.text.now st an f.number f.at (text_fault c.args.text.now f bad) e g) (rw c.in-Err.is at c.keep.ensures.fault) a.status a.bytes.items s)
    c.refused_by.ensures c.refused_by.ensures
