use Rattle.std.proofs.Common.{◌∙◌, false, length, replicate, ap, refl, arith}
use Rattle.std.proofs.lemmas.List.{length-replicate}
use Rattle.graph_search.specs.Walks.{lists}
use Rattle.graph_search.proofs.ReachedLaws.{from_none, queued}
use Rattle.smv_splits.proofs.LedLaws.{make-ready, starts-room, goes-room, marks-of}
use Rattle.smv_splits.proofs.lost.led.Goals as goal

pub see_all-requires : goal.see_all-requires
see_all-requires c = λ x h.
    let t = c.args.tables.now in
    let ready = make-ready t.design.now t.named c.args.units.now (lists t.groups.items) (lists t.groups.items) c.in_ok-next.next.items c.in_ok-next.next.items c.in_ok-starts.starts.items c.deref.result.now
    c.requires.tables.named c.requires.tables.groups refl c.in_ok-next.ensures refl c.in_ok-starts.ensures c.deref.ensures.value c.requires.units in
    let room = starts-room t.design.now (lists t.groups.items) c.in_ok-next.next.items c.deref.result.now ready x h in
    let long = ap length c.in_ok-seen.ensures in
    omega (arith, room, long, length-replicate c.len.result false, c.len.ensures, c.in_ok-seen.seen.ok.0)

pub explore-requires : goal.explore-requires
explore-requires c =
    let t = c.args.tables.now in
    let ready = make-ready t.design.now t.named c.args.units.now (lists t.groups.items) (lists c.deref-2.result.now) c.in_ok-next.next.items c.deref-3.result.now c.in_ok-starts.starts.items c.deref.result.now
    c.requires.tables.named c.requires.tables.groups (ap lists c.deref-2.ensures.value) c.in_ok-next.ensures c.deref-3.ensures.value c.in_ok-starts.ensures c.deref.ensures.value c.requires.units in
    let long = ap length c.in_ok-seen.ensures in
    let count = length t.design.now.splits in
    let saw = from_none count c.deref.result.now c.in_ok-seen.seen.items c.see_all.new.seen.items c.new-queue.result.items c.see_all.new.queue.items
    (c.in_ok-seen.ensures ∙ ap (λ n. replicate n false) c.len.ensures) c.new-queue.ensures.items c.in_ok-see_all.ensures in
    record {
      nodes = λ x y h. let room = goes-room t.design.now (lists c.deref-2.result.now) c.deref-3.result.now c.deref.result.now ready x y h in
          omega (arith, room, long, length-replicate c.len.result false, c.len.ensures, c.in_ok-see_all.ensures.room, c.see_all.new.seen.ok.0);
      queue = queued count c.deref.result.now c.see_all.new.seen.items c.see_all.new.queue.items saw;
    }

pub returns : goal.returns
returns c =
    let t = c.args.tables.now in
    let ready = make-ready t.design.now t.named c.args.units.now (lists t.groups.items) (lists c.deref-2.result.now) c.in_ok-next.next.items c.deref-3.result.now c.in_ok-starts.starts.items c.deref.result.now
    c.requires.tables.named c.requires.tables.groups (ap lists c.deref-2.ensures.value) c.in_ok-next.ensures c.deref-3.ensures.value c.in_ok-starts.ensures c.deref.ensures.value c.requires.units in
    let saw = from_none (length t.design.now.splits) c.deref.result.now c.in_ok-seen.seen.items c.see_all.new.seen.items c.new-queue.result.items c.see_all.new.queue.items
    (c.in_ok-seen.ensures ∙ ap (λ n. replicate n false) c.len.ensures) c.new-queue.ensures.items c.in_ok-see_all.ensures in
    marks-of t.design.now (lists c.deref-2.result.now) c.deref-3.result.now c.deref.result.now ready c.see_all.new.seen.items c.explore.new.seen.items c.see_all.new.queue.items c.explore.new.queue.items saw c.in_ok-explore.ensures
