use Rattle.std.proofs.Common.{◌<◌, length, get_or, arith}
use Rattle.std.proofs.lemmas.List.Elements.{Contains-get_or}
use Rattle.graph_search.specs.Walks.{lists}
use Rattle.graph_search.proofs.ReverseLaws.{noted, noted_none, noted_more, noted_all, lists_long}
use Rattle.graph_search.proofs.reverse.note_all.Goals as goal

pub note-requires : goal.note-requires
note-requires c = let within = c.requires _ (Contains-get_or c.args.nodes.now c.loop-place.place-index 0 c.loop-place-test.true) in
    omega (arith, within, c.loop-place.invariant.room, lists_long c.args.back.now.items, lists_long c.loop-place.back.items, c.args.back.now.ok.0, c.loop-place.back.ok.0)

pub loop-place-init : goal.loop-place-init
loop-place-init c = noted_none c.args.node (lists c.args.back.now.items)

pub loop-place-preserved : goal.loop-place-preserved
loop-place-preserved c =
    let within = c.requires _ (Contains-get_or c.args.nodes.now c.loop-place.place-index 0 c.loop-place-test.true) in
    let there : get_or c.args.nodes.now c.loop-place.place-index 0 < length (lists c.loop-place.back.items) = omega (arith, within, c.loop-place.invariant.room, lists_long c.args.back.now.items, c.args.back.now.ok.0) in
    noted_more c.args.nodes.now c.loop-place.place-index c.args.node (lists c.args.back.now.items) (lists c.loop-place.back.items) (lists c.note.new.back.items) c.loop-place-test.true c.loop-place.invariant
    (noted (lists c.loop-place.back.items) (lists c.note.new.back.items) (get_or c.args.nodes.now c.loop-place.place-index 0) c.args.node there c.in_ok-note.ensures)

pub returns : goal.returns
returns c = noted_all c.args.nodes.now c.loop-place.place-index c.args.node (lists c.args.back.now.items) (lists c.loop-place.back.items) c.loop-place-test.false c.loop-place.invariant
