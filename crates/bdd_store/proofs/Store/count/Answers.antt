use Rattle.std.proofs.Common.{◌<◌, ℕ, List, length, sym, subst, ◌∙◌}
use Rattle.std.specs.List.{flat_map}
use Rattle.bdd_store.specs.declared.chains.Node.{Node}
use Rattle.bdd_store.specs.Graph.{below, Live}
use Rattle.bdd_store.specs.Diagram.{Diagram, IsLive, IsReduced, ref_at}
use Rattle.bdd_store.specs.Seen.{SeenIs, places_of}
use Rattle.bdd_store.proofs.CountLaws.{count_is, places_live, none_seen}
use Rattle.bdd_store.proofs.Store.count.Goals as goal

pub count_below-requires-clause-live : goal.count_below-requires-clause-live
unfolding IsLive
count_below-requires-clause-live c =
    let live = subst (λ d. (i : ℕ) → i < length c.args.roots.now → IsLive d (ref_at c.args.roots.now i)) (sym c.self.view_is) c.requires in
    subst (λ (ns : List Node). (i : ℕ) → i < length c.args.roots.now → Live c.self.inside.vars ns (ref_at c.args.roots.now i).place) (sym c.deref.ensures.value) live

pub count_below-requires-clause-clear : goal.count_below-requires-clause-clear
count_below-requires-clause-clear c = none_seen c.in_ok-seen.seen.items c.len.result (c.in_ok-seen.ensures.items_if_clones_equal (λ y e. e))

pub returns : goal.returns
unfolding IsReduced
returns c =
    let d = c.args.self.now in
    let ok : IsReduced d = subst IsReduced c.self.view_is c.self.invariant.reduced in
    let seen : SeenIs c.count_below.new.seen.items (flat_map (below d.nodes d.vars 0) (places_of c.args.roots.now)) =
    subst (λ (x : Diagram). SeenIs c.count_below.new.seen.items (flat_map (below x.nodes x.vars 0) (places_of c.args.roots.now))) c.self.view_is
    (subst (λ ns. SeenIs c.count_below.new.seen.items (flat_map (below ns c.self.inside.vars 0) (places_of c.args.roots.now))) c.deref.ensures.value c.count_below.ensures.seen) in
    c.count_below.ensures.counted ∙ count_is d ok c.args.roots.now (places_live d c.args.roots.now c.requires) c.count_below.new.seen.items seen
