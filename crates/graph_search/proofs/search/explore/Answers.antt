use Rattle.std.proofs.Common.{◌<◌, length, subst, ap, ◌∙◌, arith}
use Rattle.std.proofs.lemmas.List.{get_or_read}
use Rattle.std.specs.List.{Contains}
use Rattle.graph_search.specs.Walks.{lists, follow}
use Rattle.graph_search.specs.Searches.{Saw}
use Rattle.graph_search.proofs.SearchLaws.{search_begun, search_turn, search_over, few_nodes}
use Rattle.graph_search.proofs.search.explore.Goals as goal

pub loop-turn-init : goal.loop-turn-init
loop-turn-init c = search_begun (follow (lists c.args.graph.now) c.args.next.now) c.args.seen.now.items c.args.queue.now.items c.requires.queue

pub returns-then-turn-len : goal.returns-then-turn-len
returns-then-turn-len c =
    search_over (follow (lists c.args.graph.now) c.args.next.now) c.args.seen.now.items c.args.queue.now.items c.loop-turn.turn c.loop-turn.seen.items c.loop-turn.queue.items (omega (arith, c.loop-turn.queue.ok.0)) c.loop-turn.invariant

pub see_all-requires : goal.see_all-requires
see_all-requires c = λ x h.
    let within = c.requires.nodes c.index.result.now x (subst (λ l. Contains l x) c.following.ensures h) in
    omega (arith, within, c.loop-turn.invariant.room, c.args.seen.now.ok.0, c.loop-turn.seen.ok.0)

pub loop-turn-preserved : goal.loop-turn-preserved
loop-turn-preserved c =
    let before : c.loop-turn.turn < length c.loop-turn.queue.items = omega (arith, c.loop-turn.queue.ok.0) in
    let node = get_or_read c.loop-turn.queue.items c.loop-turn.turn c.index.result.now before c.index.ensures 0 in
    let saw = subst (λ l. Saw l c.loop-turn.seen.items c.see_all.new.seen.items c.loop-turn.queue.items c.see_all.new.queue.items) (c.following.ensures ∙ ap (λ x. follow (lists c.args.graph.now) c.args.next.now x) node) c.in_ok-see_all.ensures in
    search_turn (follow (lists c.args.graph.now) c.args.next.now) c.args.seen.now.items c.args.queue.now.items c.loop-turn.turn c.loop-turn.seen.items c.see_all.new.seen.items c.loop-turn.queue.items c.see_all.new.queue.items before c.loop-turn.invariant saw

pub returns : goal.returns
returns c =
    let few = few_nodes c.loop-turn.seen.items c.loop-turn.queue.items c.loop-turn.invariant.few in
    search_over (follow (lists c.args.graph.now) c.args.next.now) c.args.seen.now.items c.args.queue.now.items c.loop-turn.turn c.loop-turn.seen.items c.loop-turn.queue.items
    (omega (arith, few, c.loop-turn.invariant.room, c.args.seen.now.ok.0, c.loop-turn.seen.ok.0, c.loop-turn-test.false)) c.loop-turn.invariant
