use Rattle.std.proofs.Common.{ap, sym, Some, Err, length, ◌<◌}
use Rattle.std.proofs.KnownBytes.{Keeps-refl}
use Rattle.law_answers.specs.Dues.{limit}
use Rattle.smv_look_run.proofs.Endings.{due_at, due_long, finished, given, longer, some_given, written}
use Rattle.smv_look_run.proofs.asked.Goals as goal

pub returns-in-Err-ReadFault-clause-ends : goal.returns-in-Err-ReadFault-clause-ends
returns-in-Err-ReadFault-clause-ends g c =
    let text = some_given _ in
    (text.0, text.1, Keeps-refl _)

pub returns-in-Err-OutOfMemory-clause-ends : goal.returns-in-Err-OutOfMemory-clause-ends
returns-in-Err-OutOfMemory-clause-ends g c =
    let text = some_given _ in
    (text.0, text.1, Keeps-refl _)

pub returns-in-Err-TooLong-clause-ends : goal.returns-in-Err-TooLong-clause-ends
returns-in-Err-TooLong-clause-ends g c =
    let text = given _ (λ t. limit < length t) (c.in-Err-TooLong.ensures.too_long (ap Err c.in-Err-TooLong.field-0-is)) (longer limit) in
    let f = c.finish.ensures in
    (text.0, text.1, finished _ _ (Some c.args.query.now) text.0 _ _ _ (due_long c.args.query.now text.0 _ text.2 c.too_long.ensures) f.taken f.front f.either)

pub returns-in-Ok-answer_to-clause-ends : goal.returns-in-Ok-answer_to-clause-ends
returns-in-Ok-answer_to-clause-ends g c =
    let f = c.finish-in-Ok-answer_to.ensures in
    let text = c.in-Ok.text.items in (
      text,
      c.in-Ok.ensures.all,
      finished _ _ (Some c.args.query.now) text _ _ _ (due_at c.args.query.now _ _ _ _ _ c.deref.ensures.value (sym c.deref-in-Ok-answer_to.ensures.value) c.in-Ok-answer_to.ensures) f.taken f.front f.either,
    )

pub returns-in-Ok-answer_to-clause-unwritten : goal.returns-in-Ok-answer_to-clause-unwritten
returns-in-Ok-answer_to-clause-unwritten g c = λ fault.
    absurd (written c.args.query.now c.deref.result.now c.in-Ok-answer_to.due.status c.finish-in-Ok-answer_to.result c.in-Ok-answer_to.due.bytes.items c.in-Ok-answer_to.ensures c.finish-in-Ok-answer_to.ensures.either fault)
