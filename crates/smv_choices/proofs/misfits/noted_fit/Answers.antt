use Rattle.std.proofs.Common.{map, ap, sym, ◌∙◌, false, get_or}
use Rattle.smv_choices.specs.Parts as parts
use Rattle.smv_choices.specs.Readings.{pair_of}
use Rattle.smv_choices.proofs.KnownLaws.{fits-named, known-there, one-more}
use Rattle.smv_choices.proofs.misfits.noted_fit.Goals as goal

pub returns-in-Some-clause-fits : goal.returns-in-Some-clause-fits
returns-in-Some-clause-fits c =
    let pairs = map pair_of c.args.proved.now in
    c.fit_at.ensures
    ∙ (ap (λ l. get_or l c.in-Some.place false) (c.as_slice.ensures.value ∙ c.requires)
    ∙ (known-there (parts.fits_name c.args.set pairs) c.args.known.now c.args.word.now.name c.in-Some.place (sym c.find.ensures ∙ c.in-Some.is) ∙ sym (fits-named c.args.set pairs c.args.word.now)))

pub returns-in_ok-push-in-None-2-clause-known : goal.returns-in_ok-push-in-None-2-clause-known
returns-in_ok-push-in-None-2-clause-known c =
    let pairs = map pair_of c.args.proved.now in
    one-more (parts.fits_name c.args.set pairs) c.args.known.now c.push.new.self c.args.fit.now.items c.push-in-None.new.self.items c.args.word.now.name c.fits-is_fit.result c.requires c.in_ok-push-in-None.ensures.ok
    c.in_ok-push-in-None-2.ensures.items (c.fits-is_fit.ensures ∙ fits-named c.args.set pairs c.args.word.now)
