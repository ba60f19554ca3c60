use Rattle.std.proofs.Common.{◌≡◌, [], arith}
use Rattle.std.specs.Prelude.{Some, slice_get}
use Rattle.std.proofs.lemmas.Option.{slice_get_read}
use Rattle.smv_mentions.specs.Scopes.{pieces, constants}
use Rattle.law_designs.specs.References.{modules_from}
use Rattle.smv_kinds.proofs.TopLaws.{tops-step}
use Rattle.smv_kinds.proofs.faults.all_faults.Goals as goal

pub loop-place-preserved : goal.loop-place-preserved
loop-place-preserved c =
    let text = c.args.tables.now.names.text.now in
    let got : slice_get text.tops c.loop-place.place ≡ Some c.index-tops-place.result = grind (arith, slice_get_read) in
    tops-step (modules_from [] text.tops) (constants (pieces text)) text.tops c.loop-place.place c.index-tops-place.result c.loop-place.out.items c.top_faults.new.out.items _ got
    c.in_ok-top_faults.ensures c.loop-place.invariant
