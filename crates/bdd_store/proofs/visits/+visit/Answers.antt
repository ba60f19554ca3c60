use Rattle.std.proofs.Common.{◌<◌, ◌++◌, length, arith}
use Rattle.bdd_store.specs.Graph.{low_at, below}
use Rattle.bdd_store.proofs.Seen.{closed_append, seen_last, seen_before, seen_node, seen_again, flag_read}
use Rattle.bdd_store.proofs.visits.+visit.Goals.{then-node-vars-via-then-node-vars, then-node-vars-via-else-node-vars+then-index}
use Rattle.bdd_store.proofs.visits.+visit.Goals as goal

pub returns-then-node-vars-clause-seen : goal.returns-then-node-vars-clause-seen
returns-then-node-vars-clause-seen t c l closed is =
    elim c.then-node-vars.branch [
      | then-node-vars-via-then-node-vars w ↦ seen_last c.args.vars c.args.nodes.now c.requires.reduced c.args.seen.now.items l c.args.r w.if-node-vars.true is
      | then-node-vars-via-else-node-vars+then-index w ↦ seen_before c.args.vars c.args.nodes.now c.requires.reduced c.args.seen.now.items l c.args.r c.requires.live closed (flag_read c.args.seen.now.items c.args.r w.index.result.now (omega (arith, c.requires.room, c.args.seen.now.ok.0, c.requires.live.0)) w.index.ensures w.if-index.true) is
    ]

pub returns-then-index-2-clause-seen : goal.returns-then-index-2-clause-seen
returns-then-index-2-clause-seen t c l closed is =
    let n = c.args.vars in
    let ns = c.args.nodes.now in
    let ok = c.requires.reduced in
    let lt = c.if-node-vars.false in
    let low = c.visit-after_low.ensures.seen l closed is in
    let both = c.visit-after_both.ensures.seen (below ns n 0 (low_at ns c.args.r) ++ l) (closed_append n ns ok l (low_at ns c.args.r) (ok.low_live c.args.r c.requires.live lt) closed) low in
    seen_again n ns ok c.visit-after_both.new.seen.items l c.args.r c.requires.live lt (flag_read c.visit-after_both.new.seen.items c.args.r c.index-2.result.now (omega (arith, c.visit-after_both.ensures.room, c.visit-after_both.new.seen.ok.0, c.requires.live.0)) c.index-2.ensures c.if-index-2.true) both

pub returns-clause-seen : goal.returns-clause-seen
returns-clause-seen t c l closed is =
    let n = c.args.vars in
    let ns = c.args.nodes.now in
    let ok = c.requires.reduced in
    let lt = c.if-node-vars.false in
    let low = c.visit-after_low.ensures.seen l closed is in
    let both = c.visit-after_both.ensures.seen (below ns n 0 (low_at ns c.args.r) ++ l) (closed_append n ns ok l (low_at ns c.args.r) (ok.low_live c.args.r c.requires.live lt) closed) low in
    let within : c.args.r < length c.visit-after_both.new.seen.items = omega (arith, c.visit-after_both.ensures.room, c.visit-after_both.new.seen.ok.0, c.requires.live.0) in
    seen_node n ns ok c.visit-after_both.new.seen.items l c.args.r c.requires.live lt within both
