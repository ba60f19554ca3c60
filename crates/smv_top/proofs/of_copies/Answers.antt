use Rattle.std.proofs.Common.{Some, refl, sym, ◌∙◌}
use Rattle.smv_top.proofs.Endings.{finished}
use Rattle.smv_top.proofs.DueLaws.{due_copies, due_at}
use Rattle.smv_top.proofs.of_copies.Goals as goal

pub returns-in-Ok-answer_to-clause-ends : goal.returns-in-Ok-answer_to-clause-ends
returns-in-Ok-answer_to-clause-ends g c text =
    let f = c.finish.ensures in
    finished _ _ (Some c.args.command.now) text _ _ _ (due_copies c.args.command.now c.args.copies text _ _ _ c.requires.asks (c.deref.ensures.value ∙ c.in-Ok.ensures) (due_at c.args.command.now _ _ _ _ _ refl (sym c.deref-in-Ok-answer_to.ensures.value) c.in-Ok-answer_to.ensures)) f.taken f.front f.either
