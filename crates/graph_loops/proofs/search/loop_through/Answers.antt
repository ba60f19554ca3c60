use Rattle.std.proofs.Common.{◌≡◌, ◌+◌, ◌<◌, refl, arith}
use Rattle.std.proofs.lemmas.Result.{IfOk-weaker}
use Rattle.graph_loops.specs.Walks.{lists}
use Rattle.graph_loops.specs.Marks.{AreMarks, IsFollowed, IsRound, steps_of}
use Rattle.graph_loops.proofs.RoundLaws.{next-marks}
use Rattle.graph_loops.proofs.Shortest.{found-shortest, no-loop}
use Rattle.graph_loops.proofs.search.loop_through.Goals as goal

pub loop-steps-preserved : goal.loop-steps-preserved
loop-steps-preserved c =
    let r : IsRound (lists c.args.graph.now) c.loop-steps.marks.items c.args.target c.loop-steps.steps c.in_ok-more.more.items = rw c.as_slice.ensures.value at c.in_ok-more.ensures in
    next-marks (lists c.args.graph.now) c.args.target c.loop-steps.steps c.loop-steps.marks.items c.in_ok-more.more.items c.loop-steps.invariant r

pub returns-then-steps_of-gt0 : goal.returns-then-steps_of-gt0
returns-then-steps_of-gt0 c =
    let graph = lists c.args.graph.now in
    let more = c.in_ok-more.more.items in
    let r : IsRound graph c.loop-steps.marks.items c.args.target c.loop-steps.steps more = rw c.as_slice.ensures.value at c.in_ok-more.ensures in
    let m = next-marks graph c.args.target c.loop-steps.steps c.loop-steps.marks.items more c.loop-steps.invariant r in
    let s : c.steps_of.result ≡ steps_of more c.args.target = rw c.as_slice-in-loop-steps.ensures.value at c.steps_of.ensures in
    let t = c.if-steps_of-gt0.true in
    let l : 0 < steps_of more c.args.target = omega (arith, s, t) in
    let m_there : AreMarks graph c.args.target (c.loop-steps.steps + 1) c.as_slice-then-steps_of-gt0.result.now = rw c.as_slice-then-steps_of-gt0.ensures.value m in
    let l_there : 0 < steps_of c.as_slice-then-steps_of-gt0.result.now c.args.target = rw c.as_slice-then-steps_of-gt0.ensures.value l in
    IfOk-weaker c.followed.result _ _
    (λ places f. let g : IsFollowed graph more c.args.target c.args.target places.items = rw c.as_slice-then-steps_of-gt0.ensures.value at f in found-shortest graph c.args.target (c.loop-steps.steps + 1) more m l places.items g)
    (c.followed.ensures graph c.args.target (c.loop-steps.steps + 1) m_there l_there)

pub returns-then-not-has_level : goal.returns-then-not-has_level
returns-then-not-has_level c =
    let graph = lists c.args.graph.now in
    let more = c.in_ok-more.more.items in
    let r : IsRound graph c.loop-steps.marks.items c.args.target c.loop-steps.steps more = rw c.as_slice.ensures.value at c.in_ok-more.ensures in
    let m = next-marks graph c.args.target c.loop-steps.steps c.loop-steps.marks.items more c.loop-steps.invariant r in
    let s : c.steps_of.result ≡ steps_of more c.args.target = rw c.as_slice-in-loop-steps.ensures.value at c.steps_of.ensures in
    let t = c.if-steps_of-gt0.false in
    let last = rw c.as_slice-in-loop-steps-2.ensures.value at c.if-not-has_level.ensures in
    no-loop graph c.args.target (c.loop-steps.steps + 1) more m (last refl) (omega arith) (omega (arith, s, t)) c.new.result.items c.new.ensures.items
