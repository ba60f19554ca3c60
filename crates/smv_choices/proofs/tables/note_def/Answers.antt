use Rattle.smv_choices.specs.Held.{is_noted}
use Rattle.smv_choices.proofs.StepLaws.{noted-def}
use Rattle.smv_choices.proofs.tables.note_def.Goals as goal

pub returns-in_ok-insert-in-Some : goal.returns-in_ok-insert-in-Some
returns-in_ok-insert-in-Some c = λ family layer. noted-def c.args.def.now c.in-Some.layer family layer _ (is_noted c.args.defined.now (family, layer)) c.in-Some.is (c.in_ok-insert-in-Some.ensures.updates.0 (family, layer))
