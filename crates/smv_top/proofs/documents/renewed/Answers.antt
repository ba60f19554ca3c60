use Rattle.std.proofs.Common.{◌≡◌, ◌<◌, length, arith, true, subst}
use Rattle.law_lists.proofs.Options.{if_ok_both}
use Rattle.law_judgements.specs.Judgements.{too_long}
use Rattle.smv_command.specs.declared.commands.Command.{Command}
use Rattle.smv_command.specs.declared.commands.Command.TheVariants.{Resume}
use Rattle.smv_answers.specs.Dues.{IsDue, IsFault, decides, limit}
use Rattle.smv_resume.specs.declared.Kept.{Kept}
use Rattle.smv_resume.specs.Resumed.{IsResumed}
use Rattle.smv_top.proofs.DueLaws.{due_by_refusal}
use Rattle.smv_top.proofs.DocumentLaws.{due_open_resumed, due_refused_new, due_resumed, open_resumed_status, text_fault}
use Rattle.smv_top.proofs.documents.renewed.Goals as goal

pub returns-then-text-gt-LIMIT : goal.returns-then-text-gt-LIMIT
returns-then-text-gt-LIMIT c =
    let long : limit < length c.args.text.now = grind (arith, c.if-text-gt-LIMIT.true) in
    if_ok_both c.refused.result _ _ _
    (λ a s b. due_refused_new c.args.budgets c.args.bytes.now a.status a.bytes.items c.args.old.now c.args.text.now c.args.proof.now 31 0 c.requires.within c.requires.held c.requires.spells (too_long long) s b)
    c.refused.ensures.status c.refused.ensures.bytes

pub resume-requires-clause-old : goal.resume-requires-clause-old
resume-requires-clause-old c = c.requires.spells.0

pub returns-in-Ok-All : goal.returns-in-Ok-All
returns-in-Ok-All c =
    let kept = subst (IsResumed _ c.args.budgets.nodes c.args.budgets.steps c.args.text.now) c.in-Ok-All.field-0-is c.in-Ok-All.ensures.kept in
    if_ok_both c.documented.result _ _ _
    (λ a s b. due_resumed c.args.budgets c.args.bytes.now a.status a.bytes.items c.args.old.now c.args.text.now c.args.proof.now c.in-Ok-All.proof c.requires.within c.requires.held c.requires.spells kept s b)
    c.documented.ensures.status c.documented.ensures.bytes

pub returns-in-Ok-Open : goal.returns-in-Ok-Open
returns-in-Ok-Open c =
    let kept = subst (IsResumed _ c.args.budgets.nodes c.args.budgets.steps c.args.text.now) c.in-Ok-Open.field-0-is c.in-Ok-Open.ensures.kept in
    if_ok_both c.reported.result _ _ _
    (λ a s b. due_open_resumed c.args.budgets c.args.bytes.now a.status a.bytes.items c.args.old.now c.args.text.now c.args.proof.now c.in-Ok-Open.report c.requires.within c.requires.held c.requires.spells kept.0
    (open_resumed_status c.in-Ok-Open.report kept.1) s b)
    c.reported.ensures.status c.reported.ensures.bytes

pub returns-in-Err : goal.returns-in-Err
returns-in-Err c =
    if_ok_both c.refused_by.result _ _ _
    (λ a s b. due_by_refusal Kept c.args.text.now c.in-Err.refusal (λ f. (command : Command) → decides command ≡ true → IsFault command c.args.text.now f.number f.at) (IsDue (Resume c.args.budgets) c.args.bytes.now)
    (λ f bad st an e g. due_refused_new c.args.budgets c.args.bytes.now st an c.args.old.now c.args.text.now c.args.proof.now f.number f.at c.requires.within c.requires.held c.requires.spells (text_fault c.args.text.now f bad) e g)
    (rw c.in-Err.is at c.resume.ensures.fault) a.status a.bytes.items s)
    c.refused_by.ensures c.refused_by.ensures
