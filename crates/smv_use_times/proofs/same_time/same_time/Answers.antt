use Rattle.std.proofs.Common.{false, length, replicate, ap, ◌∙◌, arith}
use Rattle.std.proofs.lemmas.List.{length-replicate}
use Rattle.smv_unit_tables.specs.Reads.{lists}
use Rattle.smv_use_times.specs.Tables.{outline, entry_of}
use Rattle.smv_use_times.proofs.SameTimeLaws.{first_below, follow_within, chosen_same, marks_are}
use Rattle.smv_use_times.proofs.same_time.same_time.Goals as goal

pub see_all-requires : goal.see_all-requires
see_all-requires c = λ x h.
    let b = first_below (outline c.args.tables.now) c.args.proof.now.place (entry_of c.args.proof.now) c.as_slice-2.result.now (c.as_slice-2.ensures.value ∙ c.in_ok-first.ensures) x h in
    let long = ap length c.in_ok-marks.ensures in
    let n = c.nodes-nodes.ensures in
    omega (arith, b, long, n, length-replicate c.nodes-nodes.result false, c.in_ok-marks.marks.ok.0)

pub explore-requires-clause-nodes : goal.explore-requires-clause-nodes
explore-requires-clause-nodes c = λ x y h.
    let b = follow_within (outline c.args.tables.now) (entry_of c.args.proof.now) (lists c.as_slice-3.result.now) c.as_slice-4.result.now (ap lists c.as_slice-3.ensures.value ∙ c.requires.defs)
    (chosen_same (outline c.args.tables.now) c.as_slice.result.now c.args.proof.now.choice.now.picks c.nodes-nodes.result _ c.in_ok-next.next.items c.as_slice-4.result.now c.as_slice.ensures c.nodes-nodes.ensures c.as_slice-4.ensures.value c.in_ok-next.ensures) x y h in
    let long = ap length c.in_ok-marks.ensures in
    let n = c.nodes-nodes.ensures in
    let room = c.in_ok-see_all.ensures.room in
    omega (arith, b, long, n, room, length-replicate c.nodes-nodes.result false, c.see_all.new.seen.ok.0)

pub returns : goal.returns
returns c = marks_are (outline c.args.tables.now) (entry_of c.args.proof.now) (lists c.as_slice-3.result.now) c.as_slice-4.result.now (ap lists c.as_slice-3.ensures.value ∙ c.requires.defs)
    (chosen_same (outline c.args.tables.now) c.as_slice.result.now c.args.proof.now.choice.now.picks c.nodes-nodes.result _ c.in_ok-next.next.items c.as_slice-4.result.now c.as_slice.ensures c.nodes-nodes.ensures c.as_slice-4.ensures.value c.in_ok-next.ensures)
    c.args.proof.now.place c.as_slice-2.result.now c.in_ok-marks.marks.items c.see_all.new.seen.items c.explore.new.seen.items c.new-queue.result.items c.see_all.new.queue.items c.explore.new.queue.items
    (c.as_slice-2.ensures.value ∙ c.in_ok-first.ensures) (c.in_ok-marks.ensures ∙ ap (λ n. replicate n false) c.nodes-nodes.ensures) c.new-queue.ensures.items c.in_ok-see_all.ensures c.in_ok-explore.ensures
