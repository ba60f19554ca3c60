use Rattle.std.proofs.Common.{◌∷◌, [], false, length, ap, arith}
use Rattle.std.proofs.lemmas.List.{length-replicate}
use Rattle.graph_search.specs.Walks.{lists, follow}
use Rattle.graph_search.proofs.ReachedLaws.{from_none, queued, reached_by}
use Rattle.graph_search.proofs.search.reached.Goals as goal

pub see-requires : goal.see-requires
see-requires c = let long = ap length c.in_ok-seen.ensures in omega (arith, long, length-replicate c.args.nodes false, c.in_ok-seen.seen.ok.0, c.requires.start)

pub explore-requires : goal.explore-requires
explore-requires c =
    let long = ap length c.in_ok-seen.ensures in
    let saw = from_none c.args.nodes (c.args.start ∷ []) c.in_ok-seen.seen.items c.see.new.seen.items c.new-queue.result.items c.see.new.queue.items c.in_ok-seen.ensures c.new-queue.ensures.items c.in_ok-see.ensures in
    record {
      nodes = λ x y h. let b = c.requires.nodes x y h in omega (arith, b, long, length-replicate c.args.nodes false, c.in_ok-see.ensures.room, c.see.new.seen.ok.0);
      queue = queued c.args.nodes (c.args.start ∷ []) c.see.new.seen.items c.see.new.queue.items saw;
    }

pub returns : goal.returns
returns c = λ x.
    reached_by (follow (lists c.args.graph.now) c.args.next.now) c.args.nodes c.args.start c.see.new.seen.items c.explore.new.seen.items c.see.new.queue.items c.explore.new.queue.items
    (from_none c.args.nodes (c.args.start ∷ []) c.in_ok-seen.seen.items c.see.new.seen.items c.new-queue.result.items c.see.new.queue.items c.in_ok-seen.ensures c.new-queue.ensures.items c.in_ok-see.ensures)
    c.in_ok-explore.ensures x
