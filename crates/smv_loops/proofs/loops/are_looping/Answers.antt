use Rattle.std.proofs.Common.{map}
use Rattle.smv_loops.specs.Held.{reading_of}
use Rattle.smv_loops.proofs.GroupLaws.{links-below}
use Rattle.smv_loops.proofs.loops.are_looping.Goals as goal

pub hold_a_cycle-requires-clause-below : goal.hold_a_cycle-requires-clause-below
hold_a_cycle-requires-clause-below c =
    let families = c.args.families.now in
    let g = c.in_ok-graph.graph in
    rw c.as_slice.ensures.value (links-below families g.rows g.links.items (map reading_of c.args.held.now) c.in_ok-graph.ensures.links g.nodes c.in_ok-graph.ensures.nodes)

pub returns : goal.returns
returns c =
    c.hold_a_cycle.ensures (map reading_of c.args.held.now) (rw c.as_slice.ensures.value c.in_ok-graph.ensures.links)
