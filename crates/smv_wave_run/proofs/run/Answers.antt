-- Words that ask for nothing are answered by a note.
use Rattle.std.proofs.Common.{◌≡◌, ◌∙◌, None, map, refl, sym}
use Rattle.std.specs.String.{string_bytes}
use Rattle.smv_wave_run.specs.Dues.{form_of}
use Rattle.smv_wave_run.proofs.Endings.{finished, left_alone, some_given}
use Rattle.smv_wave_run.proofs.run.Goals as goal

pub returns-in-None-clause-ends : goal.returns-in-None-clause-ends
returns-in-None-clause-ends g c =
    let none : form_of (map string_bytes c.args.words.now) ≡ None = sym c.form_of.ensures ∙ c.in-None.is in
    let f = c.finish.ensures in
    let text = some_given _ in
    (text.0, text.1, rw none (finished None text.0 _ _ _ _ refl (refl, refl) f.taken f.front f.either))

pub returns-in-None-clause-alone : goal.returns-in-None-clause-alone
returns-in-None-clause-alone g c =
    let f = c.finish.ensures in
    left_alone _ _ _ _ _ _ refl f.dumped f.noted f.either
