use Rattle.std.proofs.Common.{◌∙◌, ◌++◌, refl, ap, sym}
use Rattle.std.proofs.lemmas.Option.{slice_get_read}
use Rattle.smv_mentions.specs.Scopes.{pieces}
use Rattle.smv_scope.specs.Held.{piece_noted}
use Rattle.smv_look_names.specs.Names.{first_in}
use Rattle.smv_look_names.proofs.TopLaws.{all-tops, one-top}
use Rattle.smv_look_names.proofs.names.push_all.Goals as goal

pub loop-place-preserved : goal.loop-place-preserved
loop-place-preserved c =
    let t = c.args.tables.now in
    one-top c.args.at t.text.now t.pieces.now c.requires.noted (first_in c.args.at (pieces t.text.now)) c.loop-place.place c.index-tables-place.result c.loop-place.out.items c.push_top.new.out.items _
    (slice_get_read t.pieces.now _ c.loop-place.place c.index-tables-place.result refl c.loop-place-test.true c.index-tables-place.is)
    (c.in_ok-push_top.ensures ∙ ap (λ piece. c.loop-place.out.items ++ first_in c.args.at (pieces t.text.now) (piece_noted t.text.now c.loop-place.place piece)) (sym c.index-tables-place.is)) c.loop-place.invariant

pub returns : goal.returns
returns c =
    let t = c.args.tables.now in
    all-tops c.args.at t.text.now t.pieces.now c.requires.noted (first_in c.args.at (pieces t.text.now)) c.loop-place.place c.loop-place.out.items _ c.loop-place-test.false c.loop-place.invariant
