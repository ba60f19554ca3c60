use Rattle.std.proofs.Common.{◌≡◌, ◌<◌, ℕ, Bool, List, length, min, sym, ◌∙◌, ap, subst, arith}
use Rattle.std.specs.Prelude.{vec_capacity}
use Rattle.std.specs.List.{flat_map}
use Rattle.bdd_store.specs.declared.chains.Node.{Node}
use Rattle.bdd_store.specs.contracts.Store.{the_view}
use Rattle.bdd_store.specs.Graph.{Live, below}
use Rattle.bdd_store.specs.Beads.{bead_count}
use Rattle.bdd_store.specs.Seen.{SeenIs, places_of}
use Rattle.bdd_store.specs.Chains.{GivesBack}
use Rattle.bdd_store.specs.Results.{diagram_of}
use Rattle.bdd_store.specs.Diagram.{Diagram, IsLive, AreLive, ref_at, IsReduced, HasMarks, tables_of, held}
use Rattle.bdd_store.proofs.Laws.{equal_refs}
use Rattle.bdd_store.proofs.CountLaws.{none_counted, count_is}
use Rattle.bdd_store.proofs.NodeLaws.{held_is}
use Rattle.bdd_store.proofs.HeldLaws.{beads_most}
use Rattle.bdd_store.proofs.SweepLaws.{each_root, swept, swept_sound, swept_kept, swept_tables, swept_counted, swept_held}
use Rattle.bdd_store.proofs.Store.sweep.Goals as goal

pub count_below-self-inside-requires-clause-live : goal.count_below-self-inside-requires-clause-live
unfolding IsLive
count_below-self-inside-requires-clause-live c =
    subst (λ (ns : List Node). (i : ℕ) → i < length c.args.roots.now → Live c.self.inside.vars ns (ref_at c.args.roots.now i).place) (sym c.deref.ensures.value) (subst (λ (x : Diagram). AreLive x c.args.roots.now) (sym c.self.view_is) c.requires)

pub invariant_of-self : goal.invariant_of-self
unfolding IsReduced
invariant_of-self c =
    let d = c.args.self.now in
    let ok : IsReduced d = subst IsReduced c.self.view_is c.self.invariant.reduced in
    let same_vars = ap (λ (x : Diagram). x.vars) c.self.view_is in
    let roots = c.args.roots.now in
    let ms = c.give_back.new.nodes.items in
    let marks = c.count_below-self-inside.new.seen.items in
    let seen = subst (λ (x : Diagram). SeenIs marks (flat_map (below x.nodes x.vars 0) (places_of roots))) c.self.view_is (subst (λ (ns : List Node). SeenIs marks (flat_map (below ns c.self.inside.vars 0) (places_of roots))) c.deref.ensures.value c.count_below-self-inside.ensures.seen) in
    let gives = subst (λ (x : Diagram). GivesBack x.vars x.nodes ms marks) c.self.view_is (subst (λ (l : List Bool). GivesBack c.self.inside.vars c.self.inside.nodes.items ms l) c.deref-2.ensures.value c.give_back.ensures.gives_back) in
    let e : Diagram = the_view (record c.self.inside { nodes = c.link_all-self-inside.new.nodes; heads = c.link_all-self-inside.new.heads; free = c.link_all-self-inside.result; held = c.count_below-self-inside.result; marks = c.clear-2.new.seen; marked = 0; results = c.forget.new.results }) in
    let len : length marks ≡ length d.nodes = omega (arith, ap (λ (x : Diagram). length x.nodes) c.self.view_is, c.count_below-self-inside.ensures.room, c.deref.ensures.len, ap (λ (l : List Node). length l) c.deref.ensures.value, c.count_below-self-inside.new.seen.ok.0) in
    let graph = c.link_all-self-inside.ensures.same in
    record {
      reduced = swept_sound d e ms marks roots ok same_vars gives c.link_all-self-inside.ensures.same c.requires seen;
      chained = c.link_all-self-inside.ensures.chained;
      few = omega (arith, graph.count, c.give_back.ensures.gives_back.count, c.self.invariant.few);
      held_counted = c.count_below-self-inside.ensures.counted ∙ sym (swept_counted d e ms marks roots ok same_vars gives c.link_all-self-inside.ensures.same c.requires seen len);
      flags = omega (arith, c.clear-2.ensures.room, c.clear-2.new.seen.ok.0, c.count_below-self-inside.new.seen.ok.0, len, ap (λ (x : Diagram). length x.nodes) c.self.view_is, graph.count, c.give_back.ensures.gives_back.count);
      marks_counted = none_counted c.clear-2.new.seen.items c.clear-2.ensures.clear;
      known = c.forget.ensures (diagram_of c.self.inside.vars c.link_all-self-inside.new.nodes.items) (swept_sound d e ms marks roots ok same_vars gives c.link_all-self-inside.ensures.same c.requires seen);
    }

pub returns-clause-sweeps : goal.returns-clause-sweeps
unfolding IsReduced
returns-clause-sweeps c =
    let d = c.args.self.now in
    let ok : IsReduced d = subst IsReduced c.self.view_is c.self.invariant.reduced in
    let same_vars = ap (λ (x : Diagram). x.vars) c.self.view_is in
    let roots = c.args.roots.now in
    let ms = c.give_back.new.nodes.items in
    let marks = c.count_below-self-inside.new.seen.items in
    let seen = subst (λ (x : Diagram). SeenIs marks (flat_map (below x.nodes x.vars 0) (places_of roots))) c.self.view_is (subst (λ (ns : List Node). SeenIs marks (flat_map (below ns c.self.inside.vars 0) (places_of roots))) c.deref.ensures.value c.count_below-self-inside.ensures.seen) in
    let gives = subst (λ (x : Diagram). GivesBack x.vars x.nodes ms marks) c.self.view_is (subst (λ (l : List Bool). GivesBack c.self.inside.vars c.self.inside.nodes.items ms l) c.deref-2.ensures.value c.give_back.ensures.gives_back) in
    let e : Diagram = the_view (record c.self.inside { nodes = c.link_all-self-inside.new.nodes; heads = c.link_all-self-inside.new.heads; free = c.link_all-self-inside.result; held = c.count_below-self-inside.result; marks = c.clear-2.new.seen; marked = 0; results = c.forget.new.results }) in
    let len : length marks ≡ length d.nodes = omega (arith, ap (λ (x : Diagram). length x.nodes) c.self.view_is, c.count_below-self-inside.ensures.room, c.deref.ensures.len, ap (λ (l : List Node). length l) c.deref.ensures.value, c.count_below-self-inside.new.seen.ok.0) in
    swept d e ms marks roots ok same_vars gives c.link_all-self-inside.ensures.same c.requires seen

pub returns-clause-kept : goal.returns-clause-kept
unfolding IsReduced
returns-clause-kept c =
    let d = c.args.self.now in
    let ok : IsReduced d = subst IsReduced c.self.view_is c.self.invariant.reduced in
    let same_vars = ap (λ (x : Diagram). x.vars) c.self.view_is in
    let roots = c.args.roots.now in
    let ms = c.give_back.new.nodes.items in
    let marks = c.count_below-self-inside.new.seen.items in
    let seen = subst (λ (x : Diagram). SeenIs marks (flat_map (below x.nodes x.vars 0) (places_of roots))) c.self.view_is (subst (λ (ns : List Node). SeenIs marks (flat_map (below ns c.self.inside.vars 0) (places_of roots))) c.deref.ensures.value c.count_below-self-inside.ensures.seen) in
    let gives = subst (λ (x : Diagram). GivesBack x.vars x.nodes ms marks) c.self.view_is (subst (λ (l : List Bool). GivesBack c.self.inside.vars c.self.inside.nodes.items ms l) c.deref-2.ensures.value c.give_back.ensures.gives_back) in
    let e : Diagram = the_view (record c.self.inside { nodes = c.link_all-self-inside.new.nodes; heads = c.link_all-self-inside.new.heads; free = c.link_all-self-inside.result; held = c.count_below-self-inside.result; marks = c.clear-2.new.seen; marked = 0; results = c.forget.new.results }) in
    let len : length marks ≡ length d.nodes = omega (arith, ap (λ (x : Diagram). length x.nodes) c.self.view_is, c.count_below-self-inside.ensures.room, c.deref.ensures.len, ap (λ (l : List Node). length l) c.deref.ensures.value, c.count_below-self-inside.new.seen.ok.0) in
    swept_kept d e ms marks roots ok same_vars gives c.link_all-self-inside.ensures.same c.requires seen

pub returns-clause-beads : goal.returns-clause-beads
unfolding IsReduced
returns-clause-beads c =
    let d = c.args.self.now in
    let ok : IsReduced d = subst IsReduced c.self.view_is c.self.invariant.reduced in
    let same_vars = ap (λ (x : Diagram). x.vars) c.self.view_is in
    let roots = c.args.roots.now in
    let ms = c.give_back.new.nodes.items in
    let marks = c.count_below-self-inside.new.seen.items in
    let seen = subst (λ (x : Diagram). SeenIs marks (flat_map (below x.nodes x.vars 0) (places_of roots))) c.self.view_is (subst (λ (ns : List Node). SeenIs marks (flat_map (below ns c.self.inside.vars 0) (places_of roots))) c.deref.ensures.value c.count_below-self-inside.ensures.seen) in
    let gives = subst (λ (x : Diagram). GivesBack x.vars x.nodes ms marks) c.self.view_is (subst (λ (l : List Bool). GivesBack c.self.inside.vars c.self.inside.nodes.items ms l) c.deref-2.ensures.value c.give_back.ensures.gives_back) in
    let e : Diagram = the_view (record c.self.inside { nodes = c.link_all-self-inside.new.nodes; heads = c.link_all-self-inside.new.heads; free = c.link_all-self-inside.result; held = c.count_below-self-inside.result; marks = c.clear-2.new.seen; marked = 0; results = c.forget.new.results }) in
    let len : length marks ≡ length d.nodes = omega (arith, ap (λ (x : Diagram). length x.nodes) c.self.view_is, c.count_below-self-inside.ensures.room, c.deref.ensures.len, ap (λ (l : List Node). length l) c.deref.ensures.value, c.count_below-self-inside.new.seen.ok.0) in
    swept_held d e ms marks roots ok same_vars gives c.link_all-self-inside.ensures.same c.requires seen len

pub returns-clause-held : goal.returns-clause-held
unfolding IsReduced
returns-clause-held c =
    let d = c.args.self.now in
    let ok : IsReduced d = subst IsReduced c.self.view_is c.self.invariant.reduced in
    let same_vars = ap (λ (x : Diagram). x.vars) c.self.view_is in
    let roots = c.args.roots.now in
    let ms = c.give_back.new.nodes.items in
    let marks = c.count_below-self-inside.new.seen.items in
    let seen = subst (λ (x : Diagram). SeenIs marks (flat_map (below x.nodes x.vars 0) (places_of roots))) c.self.view_is (subst (λ (ns : List Node). SeenIs marks (flat_map (below ns c.self.inside.vars 0) (places_of roots))) c.deref.ensures.value c.count_below-self-inside.ensures.seen) in
    let gives = subst (λ (x : Diagram). GivesBack x.vars x.nodes ms marks) c.self.view_is (subst (λ (l : List Bool). GivesBack c.self.inside.vars c.self.inside.nodes.items ms l) c.deref-2.ensures.value c.give_back.ensures.gives_back) in
    let e : Diagram = the_view (record c.self.inside { nodes = c.link_all-self-inside.new.nodes; heads = c.link_all-self-inside.new.heads; free = c.link_all-self-inside.result; held = c.count_below-self-inside.result; marks = c.clear-2.new.seen; marked = 0; results = c.forget.new.results }) in
    let len : length marks ≡ length d.nodes = omega (arith, ap (λ (x : Diagram). length x.nodes) c.self.view_is, c.count_below-self-inside.ensures.room, c.deref.ensures.len, ap (λ (l : List Node). length l) c.deref.ensures.value, c.count_below-self-inside.new.seen.ok.0) in
    swept_held d e ms marks roots ok same_vars gives c.link_all-self-inside.ensures.same c.requires seen len ∙ ap (bead_count d.vars) (swept_tables d e ms marks roots ok same_vars gives c.link_all-self-inside.ensures.same c.requires seen) ∙ ap (λ m. bead_count m (tables_of e roots)) (sym same_vars)

pub returns-clause-marks : goal.returns-clause-marks
unfolding HasMarks
returns-clause-marks c =
    c.clear-2.ensures.clear

pub returns-clause-sound : goal.returns-clause-sound
unfolding IsReduced
returns-clause-sound c =
    let d = c.args.self.now in
    let ok : IsReduced d = subst IsReduced c.self.view_is c.self.invariant.reduced in
    let same_vars = ap (λ (x : Diagram). x.vars) c.self.view_is in
    let roots = c.args.roots.now in
    let ms = c.give_back.new.nodes.items in
    let marks = c.count_below-self-inside.new.seen.items in
    let seen = subst (λ (x : Diagram). SeenIs marks (flat_map (below x.nodes x.vars 0) (places_of roots))) c.self.view_is (subst (λ (ns : List Node). SeenIs marks (flat_map (below ns c.self.inside.vars 0) (places_of roots))) c.deref.ensures.value c.count_below-self-inside.ensures.seen) in
    let gives = subst (λ (x : Diagram). GivesBack x.vars x.nodes ms marks) c.self.view_is (subst (λ (l : List Bool). GivesBack c.self.inside.vars c.self.inside.nodes.items ms l) c.deref-2.ensures.value c.give_back.ensures.gives_back) in
    let e : Diagram = the_view (record c.self.inside { nodes = c.link_all-self-inside.new.nodes; heads = c.link_all-self-inside.new.heads; free = c.link_all-self-inside.result; held = c.count_below-self-inside.result; marks = c.clear-2.new.seen; marked = 0; results = c.forget.new.results }) in
    let len : length marks ≡ length d.nodes = omega (arith, ap (λ (x : Diagram). length x.nodes) c.self.view_is, c.count_below-self-inside.ensures.room, c.deref.ensures.len, ap (λ (l : List Node). length l) c.deref.ensures.value, c.count_below-self-inside.new.seen.ok.0) in
    swept_sound d e ms marks roots ok same_vars gives c.link_all-self-inside.ensures.same c.requires seen

pub returns-clause-canonical : goal.returns-clause-canonical
unfolding IsReduced
returns-clause-canonical c =
    let d = c.args.self.now in
    let ok : IsReduced d = subst IsReduced c.self.view_is c.self.invariant.reduced in
    let same_vars = ap (λ (x : Diagram). x.vars) c.self.view_is in
    let roots = c.args.roots.now in
    let ms = c.give_back.new.nodes.items in
    let marks = c.count_below-self-inside.new.seen.items in
    let seen = subst (λ (x : Diagram). SeenIs marks (flat_map (below x.nodes x.vars 0) (places_of roots))) c.self.view_is (subst (λ (ns : List Node). SeenIs marks (flat_map (below ns c.self.inside.vars 0) (places_of roots))) c.deref.ensures.value c.count_below-self-inside.ensures.seen) in
    let gives = subst (λ (x : Diagram). GivesBack x.vars x.nodes ms marks) c.self.view_is (subst (λ (l : List Bool). GivesBack c.self.inside.vars c.self.inside.nodes.items ms l) c.deref-2.ensures.value c.give_back.ensures.gives_back) in
    let e : Diagram = the_view (record c.self.inside { nodes = c.link_all-self-inside.new.nodes; heads = c.link_all-self-inside.new.heads; free = c.link_all-self-inside.result; held = c.count_below-self-inside.result; marks = c.clear-2.new.seen; marked = 0; results = c.forget.new.results }) in
    let len : length marks ≡ length d.nodes = omega (arith, ap (λ (x : Diagram). length x.nodes) c.self.view_is, c.count_below-self-inside.ensures.room, c.deref.ensures.len, ap (λ (l : List Node). length l) c.deref.ensures.value, c.count_below-self-inside.new.seen.ok.0) in
    equal_refs e (swept_sound d e ms marks roots ok same_vars gives c.link_all-self-inside.ensures.same c.requires seen)

pub returns-clause-spare : goal.returns-clause-spare
unfolding IsReduced
returns-clause-spare c =
    let d = c.args.self.now in
    let ok : IsReduced d = subst IsReduced c.self.view_is c.self.invariant.reduced in
    let same_vars = ap (λ (x : Diagram). x.vars) c.self.view_is in
    let roots = c.args.roots.now in
    let ms = c.give_back.new.nodes.items in
    let marks = c.count_below-self-inside.new.seen.items in
    let seen = subst (λ (x : Diagram). SeenIs marks (flat_map (below x.nodes x.vars 0) (places_of roots))) c.self.view_is (subst (λ (ns : List Node). SeenIs marks (flat_map (below ns c.self.inside.vars 0) (places_of roots))) c.deref.ensures.value c.count_below-self-inside.ensures.seen) in
    let gives = subst (λ (x : Diagram). GivesBack x.vars x.nodes ms marks) c.self.view_is (subst (λ (l : List Bool). GivesBack c.self.inside.vars c.self.inside.nodes.items ms l) c.deref-2.ensures.value c.give_back.ensures.gives_back) in
    let e : Diagram = the_view (record c.self.inside { nodes = c.link_all-self-inside.new.nodes; heads = c.link_all-self-inside.new.heads; free = c.link_all-self-inside.result; held = c.count_below-self-inside.result; marks = c.clear-2.new.seen; marked = 0; results = c.forget.new.results }) in
    let len : length marks ≡ length d.nodes = omega (arith, ap (λ (x : Diagram). length x.nodes) c.self.view_is, c.count_below-self-inside.ensures.room, c.deref.ensures.len, ap (λ (l : List Node). length l) c.deref.ensures.value, c.count_below-self-inside.new.seen.ok.0) in
    let count : c.count_below-self-inside.result ≡ bead_count d.vars (tables_of d roots) = c.count_below-self-inside.ensures.counted ∙ count_is d ok roots (each_root d e ms marks roots ok same_vars gives c.link_all-self-inside.ensures.same c.requires seen) marks seen in
    let most = beads_most d ok roots c.requires in
    let was : held d ≡ c.self.inside.held = sym (c.self.invariant.held_counted ∙ sym (held_is (the_view c.self.inside)) ∙ ap held c.self.view_is) in
    let nodes : vec_capacity c.link_all-self-inside.new.nodes ≡ vec_capacity c.self.inside.nodes = c.link_all-self-inside.ensures.room ∙ c.give_back.ensures.room in
    let flags : vec_capacity c.clear-2.new.seen ≡ vec_capacity c.self.inside.marks = c.clear-2.ensures.capacity ∙ c.count_below-self-inside.ensures.capacity ∙ c.clear.ensures.capacity in
    let room : min (min (vec_capacity c.link_all-self-inside.new.nodes) (vec_capacity c.clear-2.new.seen)) 0x1_0000_0000 ≡ min (min (vec_capacity c.self.inside.nodes) (vec_capacity c.self.inside.marks)) 0x1_0000_0000 = ap (λ k. min (min k (vec_capacity c.clear-2.new.seen)) 0x1_0000_0000) nodes ∙ ap (λ k. min (min (vec_capacity c.self.inside.nodes) k) 0x1_0000_0000) flags in
    omega (arith, room, count, most, was, ap (λ (x : Diagram). x.spare) c.self.view_is)
