use Rattle.std.proofs.Common.{refl, ap, sym, ◌∙◌}
use Rattle.smv_first_fault.specs.Firsts.{least}
use Rattle.smv_scope.specs.Held.{piece_noted}
use Rattle.std.proofs.lemmas.Option.{slice_get_read}
use Rattle.smv_mentions.specs.Scopes.{pieces}
use Rattle.smv_scope.specs.Rules.{broken}
use Rattle.smv_scope.proofs.RuleLaws.{tops-step, tops-end}
use Rattle.smv_scope.proofs.rules.first_broken.Goals as goal

pub loop-place-preserved : goal.loop-place-preserved
loop-place-preserved c =
    let t = c.args.tables.now in
    tops-step t.text.now t.pieces.now c.requires.noted (broken c.args.rule (pieces t.text.now)) c.loop-place.place c.index-tables-place.result c.loop-place.first c.in_ok-at.at c.first_of-first.result _
    (slice_get_read t.pieces.now _ c.loop-place.place c.index-tables-place.result refl c.loop-place-test.true c.index-tables-place.is)
    (c.in_ok-at.ensures ∙ ap (λ piece. least (broken c.args.rule (pieces t.text.now) (piece_noted t.text.now c.loop-place.place piece))) (sym c.index-tables-place.is)) c.first_of-first.ensures c.loop-place.invariant

pub returns : goal.returns
returns c =
    let t = c.args.tables.now in
    tops-end t.text.now t.pieces.now c.requires.noted (broken c.args.rule (pieces t.text.now)) c.loop-place.place c.loop-place.first _ c.loop-place-test.false c.loop-place.invariant
