use Rattle.law_lists.proofs.Options.{if_ok_both}
use Rattle.smv_core.specs.declared.fault.Fault.{Fault}
use Rattle.smv_command.specs.declared.commands.Command.TheVariants.{Ltl}
use Rattle.law_translated_texts.specs.Answers.{IsRefused}
use Rattle.smv_answers.specs.Dues.{IsDue}
use Rattle.smv_ltl.specs.declared.Translated.{Translated}
use Rattle.smv_top.proofs.DueLaws.{due_by_refusal}
use Rattle.smv_top.proofs.FormulaLaws.{due_refused_text}
use Rattle.smv_top.proofs.formulas.translated.Goals as goal

pub returns-in-Err : goal.returns-in-Err
returns-in-Err c =
    if_ok_both c.refused_by.result _ _ _
    (λ a s b. due_by_refusal Translated c.args.text.now c.in-Err.refusal (λ (f : Fault). IsRefused c.args.text.now f.number f.at) (IsDue (Ltl c.args.bits c.args.budgets) c.args.text.now)
    (λ f bad st an e g. due_refused_text c.args.text.now c.args.bits c.args.budgets st an f.number f.at bad e g) (rw c.in-Err.is at c.translate.ensures.fault) a.status a.bytes.items s)
    c.refused_by.ensures c.refused_by.ensures
