use Rattle.smv_loops.proofs.ClosingLaws.{decided}
use Rattle.smv_loops.proofs.loops.hold_a_cycle.Goals as goal

pub returns : goal.returns
returns c = λ readings shown.
    let some = rw c.as_slice.ensures.value at c.has_none.ensures.some in
    let none = rw c.as_slice.ensures.value at c.has_none.ensures.none in
    decided c.args.families.now c.args.nodes c.args.rows c.args.links.now c.in_ok-ranks.ranks.items readings c.requires.nodes c.in_ok-ranks.ensures shown c.has_none.result some none
