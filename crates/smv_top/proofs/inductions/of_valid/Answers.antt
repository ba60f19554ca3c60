use Rattle.law_lists.proofs.Options.{if_ok_both}
use Rattle.smv_core.specs.declared.fault.Fault.{Fault}
use Rattle.smv_command.specs.declared.commands.Command.TheVariants.{Induct}
use Rattle.smv_answers.specs.Dues.{IsDue}
use Rattle.smv_strengthen.specs.declared.Stronger.{Stronger}
use Rattle.smv_strengthen.specs.Answers.{IsRefused}
use Rattle.smv_top.proofs.DueLaws.{due_by_refusal}
use Rattle.smv_top.proofs.InductLaws.{due_unstrengthened}
use Rattle.smv_top.proofs.inductions.of_valid.Goals as goal

pub returns-in-Err : goal.returns-in-Err
returns-in-Err c =
    if_ok_both c.refused_by.result _ _ _
    (λ a s b. due_by_refusal Stronger c.args.text.now c.in-Err.refusal (λ (f : Fault). IsRefused c.args.text.now c.args.name.now c.args.var.now f.number f.at) (IsDue (Induct c.args.name.now c.args.var.now c.args.budgets) c.args.text.now)
    (λ f bad st an e g. due_unstrengthened c.args.text.now c.args.name.now c.args.var.now c.args.budgets st an c.one_answer.ensures.not_both c.requires.valid.0 c.requires.valid.1 f.number f.at bad e g)
    (rw c.in-Err.is at c.strengthen.ensures.fault) a.status a.bytes.items s)
    c.refused_by.ensures c.refused_by.ensures
