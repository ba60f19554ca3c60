use Rattle.std.proofs.Common.{◌≡◌, ◌+◌, [], ◌∷◌, ◌++◌, take, sym, ap, subst, ◌∙◌, arith}
use Rattle.std.specs.List.{flat_map}
use Rattle.std.proofs.lemmas.List.{take_more}
use Rattle.bdd_store.specs.Graph.{below}
use Rattle.bdd_store.specs.Diagram.{ref_at}
use Rattle.bdd_store.specs.Seen.{SeenIs, places_of}
use Rattle.bdd_store.proofs.CountLaws.{closed_all, seen_more, places_append, each_place, none_counted}
use Rattle.bdd_store.proofs.visits.count_below.Goals as goal

pub loop-root-init : goal.loop-root-init
loop-root-init c = record { room = omega (arith, c.requires.room, c.args.seen.now.ok.0); counted = none_counted c.args.seen.now.items c.requires.clear; is = c.requires.clear }

pub loop-root-preserved : goal.loop-root-preserved
loop-root-preserved c =
    let n = c.args.vars in
    let ns = c.args.nodes.now in
    let i = c.loop-root.root-index in
    let roots = c.args.roots.now in
    let root = ref_at roots i in
    let so_far = places_of (take i roots) in
    let live = each_place n ns roots i c.requires.live in
    let seen = c.visit-count.ensures.seen (flat_map (below ns n 0) so_far) (closed_all n ns c.requires.reduced so_far live) c.loop-root.invariant.is in
    let more = seen_more n ns c.visit-count.new.seen.items so_far root.place seen in
    let next : places_of (take (i + 1) roots) ≡ so_far ++ root.place ∷ [] = ap places_of (take_more roots i (record { place = 0 }) c.loop-root-test.true) ∙ places_append (take i roots) root in
    record {
      room = omega (arith, c.visit-count.ensures.room, c.visit-count.new.seen.ok.0);
      counted = c.visit-count.ensures.counted;
      is = subst (λ ps. SeenIs c.visit-count.new.seen.items (flat_map (below ns n 0) ps)) (sym next) more;
    }
