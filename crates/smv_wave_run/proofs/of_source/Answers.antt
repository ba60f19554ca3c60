-- Nothing is read, or the answer to what is read is written.
use Rattle.std.proofs.Common.{Some}
use Rattle.std.proofs.KnownBytes.{Keeps-refl}
use Rattle.smv_wave_run.proofs.Endings.{due_to, finished, is_told, left_alone, some_given}
use Rattle.smv_wave_run.proofs.of_source.Goals as goal

pub returns-in-Err-ReadFault-clause-ends : goal.returns-in-Err-ReadFault-clause-ends
returns-in-Err-ReadFault-clause-ends g c = let text = some_given _ in (text.0, text.1, (Keeps-refl _, Keeps-refl _))

pub returns-in-Err-OutOfMemory-clause-ends : goal.returns-in-Err-OutOfMemory-clause-ends
returns-in-Err-OutOfMemory-clause-ends g c = let text = some_given _ in (text.0, text.1, (Keeps-refl _, Keeps-refl _))

pub returns-in-Err-TooLong-clause-ends : goal.returns-in-Err-TooLong-clause-ends
returns-in-Err-TooLong-clause-ends g c = let text = some_given _ in (text.0, text.1, (Keeps-refl _, Keeps-refl _))

pub returns-in-Ok-answer_to-clause-ends : goal.returns-in-Ok-answer_to-clause-ends
returns-in-Ok-answer_to-clause-ends g c =
    let f = c.finish.ensures in
    let text = c.in-Ok.text.items in
    let told = c.in-Ok-answer_to.ensures in (
      text,
      c.in-Ok.ensures.all,
      finished (Some c.args.form) text _ _ _ _ (is_told _ _ told.status) (due_to c.args.form text _ _ _ _ c.deref.ensures.value told.status told.bytes c.deref-in-Ok-answer_to.ensures.value) f.taken f.front f.either,
    )

pub returns-in-Ok-answer_to-clause-alone : goal.returns-in-Ok-answer_to-clause-alone
returns-in-Ok-answer_to-clause-alone g c =
    let f = c.finish.ensures in
    let told = c.in-Ok-answer_to.ensures in
    left_alone _ _ _ _ _ _ (is_told _ _ told.status) f.dumped f.noted f.either
