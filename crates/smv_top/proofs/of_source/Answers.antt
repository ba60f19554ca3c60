use Rattle.std.proofs.Common.{inl, ap, sym, subst, ◌∙◌, Some, Err, ℕ, length, ◌<◌, refl}
use Rattle.std.proofs.KnownBytes.{Keeps-refl}
use Rattle.smv_top.proofs.Endings.{longer, some_given, given, finished, never_unwritten, owed_not}
use Rattle.smv_top.proofs.DueLaws.{due_long, due_at}
use Rattle.smv_top.proofs.of_source.Goals as goal

pub returns-in-Err-ReadFault-clause-ends : goal.returns-in-Err-ReadFault-clause-ends
returns-in-Err-ReadFault-clause-ends g c =
    let text = some_given _ in
    (text.0, text.1, (c.requires.reads, Keeps-refl _))

pub returns-in-Err-OutOfMemory-clause-ends : goal.returns-in-Err-OutOfMemory-clause-ends
returns-in-Err-OutOfMemory-clause-ends g c =
    let text = some_given _ in
    (text.0, text.1, Keeps-refl _)

pub returns-in-Err-TooLong-clause-ends : goal.returns-in-Err-TooLong-clause-ends
returns-in-Err-TooLong-clause-ends g c =
    let text = given _ (λ t. c.limit_for.result < length t) (c.in-Err-TooLong.ensures.too_long (ap Err c.in-Err-TooLong.field-0-is)) (longer c.limit_for.result) in
    let long = subst (λ (n : ℕ). n < length text.0) c.limit_for.ensures text.2 in
    let f = c.finish.ensures in
    (text.0, text.1, finished _ _ (Some c.args.command.now) text.0 _ _ _ (due_long c.args.command.now text.0 _ (c.requires.own text.0) long c.too_long.ensures) f.taken f.front f.either)

pub returns-in-Ok-answer_to-clause-ends : goal.returns-in-Ok-answer_to-clause-ends
returns-in-Ok-answer_to-clause-ends g c =
    let f = c.finish-in-Ok-answer_to.ensures in
    let text = c.in-Ok.text.items in (
      text,
      c.in-Ok.ensures.all,
      finished _ _ (Some c.args.command.now) text _ _ _ (due_at c.args.command.now _ _ _ _ _ (c.deref.ensures.value ∙ sym (c.requires.own text)) (sym c.deref-in-Ok-answer_to.ensures.value) c.in-Ok-answer_to.ensures)
          f.taken f.front f.either,
    )

pub finish-requires-in-Ok-answer_to : goal.finish-requires-in-Ok-answer_to
finish-requires-in-Ok-answer_to g c = owed_not c.args.command.now _ _ _ _ c.in-Ok-answer_to.ensures refl

pub returns-in-Ok-answer_to-clause-read_fault : goal.returns-in-Ok-answer_to-clause-read_fault
returns-in-Ok-answer_to-clause-read_fault g c is = absurd (never_unwritten c.args.command.now _ _ _ _ c.in-Ok-answer_to.ensures c.finish-in-Ok-answer_to.ensures.either (inl is))

pub returns-in-Ok-answer_to-clause-unwritten : goal.returns-in-Ok-answer_to-clause-unwritten
returns-in-Ok-answer_to-clause-unwritten g c is = absurd (never_unwritten c.args.command.now _ _ _ _ c.in-Ok-answer_to.ensures c.finish-in-Ok-answer_to.ensures.either is)
