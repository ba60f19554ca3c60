use Rattle.std.proofs.Common.{◌≡◌, map}
use Rattle.std.proofs.lemmas.Result.{IfOk-weaker}
use Rattle.smv_loops.specs.Held.{reading_of}
use Rattle.graph_loops.specs.Walks.{lists, IsLoopOf, IsShortest}
use Rattle.smv_look_loops.specs.Graphs.{rows, nodes_at}
use Rattle.smv_look_loops.proofs.PathLaws.{shortest-at}
use Rattle.smv_look_loops.proofs.paths.loop_places.Goals as goal

pub returns : goal.returns
returns c =
    let d = c.args.design.now in
    let all = map reading_of c.in_ok-held.held.items in
    let graph = lists c.in_ok-graph.graph.items in
    let nodes = c.in_ok-nodes.nodes.items in
    let g : graph ≡ rows d.families all = rw (c.as_slice-families.ensures, c.as_slice.ensures.value) at c.in_ok-graph.ensures in
    let n : nodes ≡ nodes_at c.args.at 0 all = rw c.as_slice-2.ensures.value at c.in_ok-nodes.ensures in
    IfOk-weaker c.shortest_loop.result _ _
    (λ places s.
    let on : IsShortest (IsLoopOf graph nodes) places.items = rw (c.as_slice-3.ensures.value, c.as_slice-4.ensures.value) at s in
    shortest-at d c.args.at all graph nodes places.items c.in_ok-held.ensures g n on) c.shortest_loop.ensures
