use Rattle.std.proofs.Common.{◌<◌, length, arith}
use Rattle.law_lists.proofs.Options.{if_ok_both}
use Rattle.law_judgements.specs.Judgements.{too_long}
use Rattle.smv_problem.specs.declared.report.Plan.{Plan}
use Rattle.smv_command.specs.declared.commands.Command.TheVariants.{Induct}
use Rattle.smv_read_design.specs.Answers.{IsFaultOf}
use Rattle.smv_answers.specs.Dues.{IsDue, limit}
use Rattle.smv_top.proofs.DocumentLaws.{text_fault}
use Rattle.smv_top.proofs.DueLaws.{due_by_refusal}
use Rattle.smv_top.proofs.InductLaws.{due_refused_text}
use Rattle.smv_top.proofs.inductions.inducted.Goals as goal

pub returns-then-text-gt-LIMIT : goal.returns-then-text-gt-LIMIT
returns-then-text-gt-LIMIT c =
    let long : limit < length c.args.text.now = grind (arith, c.if-text-gt-LIMIT.true) in
    if_ok_both c.refused.result _ _ _ (λ a s b. due_refused_text c.args.text.now c.args.name.now c.args.var.now c.args.budgets a.status a.bytes.items 31 0 (too_long long) s b) c.refused.ensures.status c.refused.ensures.bytes

pub of_valid-requires-clause-valid : goal.of_valid-requires-clause-valid
of_valid-requires-clause-valid c = (c.in-Ok.ensures.plan.0, c.in-Ok.ensures.plan.1)

pub returns-in-Err : goal.returns-in-Err
returns-in-Err c =
    if_ok_both c.refused_by.result _ _ _
    (λ a s b. due_by_refusal Plan c.args.text.now c.in-Err.refusal (IsFaultOf c.args.text.now) (IsDue (Induct c.args.name.now c.args.var.now c.args.budgets) c.args.text.now)
    (λ f bad st an e g. due_refused_text c.args.text.now c.args.name.now c.args.var.now c.args.budgets st an f.number f.at (text_fault c.args.text.now f bad) e g) (rw c.in-Err.is at c.read_design.ensures.fault) a.status a.bytes.items s)
    c.refused_by.ensures c.refused_by.ensures
