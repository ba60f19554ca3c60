use Rattle.std.proofs.Common.{map, refl, sym, ◌∙◌}
use Rattle.std.specs.String.{string_bytes}
use Rattle.std.proofs.KnownBytes.{Keeps-refl}
use Rattle.smv_look_run.proofs.Endings.{due_usage, finished, some_given}
use Rattle.smv_look_run.proofs.run.Goals as goal

pub returns-in_default-clause-ends : goal.returns-in_default-clause-ends
returns-in_default-clause-ends g c =
    let text = some_given _ in
    (text.0, text.1, Keeps-refl _)

pub returns-clause-ends : goal.returns-clause-ends
returns-clause-ends g c =
    let text = some_given _ in
    let f = c.finish.ensures in
    (text.0, text.1, finished _ _ _ text.0 _ _ _ (due_usage _ text.0 _ (sym c.in-Ok.ensures ∙ c.in-None.is) refl) f.taken f.front f.either)

pub asked-requires : goal.asked-requires
asked-requires g c = c.numbers_are_in_range.ensures (map string_bytes c.args.words.now) c.in-Some.query (sym c.in-Ok.ensures ∙ c.in-Some.is)
