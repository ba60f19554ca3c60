use Rattle.std.proofs.Common.{ℕ, List, ◌∷◌, ◌++◌, sym, ◌∙◌, ap, subst}
use Rattle.std.specs.List.{flat_map}
use Rattle.bdd_store.specs.declared.chains.Node.{Node}
use Rattle.bdd_store.specs.contracts.Store.{the_view}
use Rattle.bdd_store.specs.Graph.{Live, below}
use Rattle.bdd_store.specs.Seen.{SeenIs, IsClosed, places_of}
use Rattle.bdd_store.specs.Diagram.{Diagram, IsLive, IsReduced, HasMarks}
use Rattle.bdd_store.proofs.Laws.{equal_refs}
use Rattle.bdd_store.proofs.CountLaws.{closed_all, places_live, count_is}
use Rattle.bdd_store.proofs.NodeLaws.{same_keeps, same_live, same_held}
use Rattle.bdd_store.proofs.Store.mark.Goals as goal

pub visit-self-inside-requires-clause-live : goal.visit-self-inside-requires-clause-live
unfolding IsLive
visit-self-inside-requires-clause-live c =
    subst (λ (ns : List Node). Live c.self.inside.vars ns c.args.r.place) (sym c.deref.ensures.value) (subst (λ (x : Diagram). Live x.vars x.nodes c.args.r.place) (sym c.self.view_is) c.requires)

pub returns-clause-marks : goal.returns-clause-marks
unfolding IsReduced HasMarks
returns-clause-marks c fs live is =
    let d = c.args.self.now in
    let ok : IsReduced d = subst IsReduced c.self.view_is c.self.invariant.reduced in
    let is_marks : SeenIs c.self.inside.marks.items (flat_map (below d.nodes d.vars 0) (places_of fs)) = subst (λ (x : Diagram). SeenIs x.marks (flat_map (below d.nodes d.vars 0) (places_of fs))) (sym c.self.view_is) is in
    let visited = subst (λ (x : Diagram). (l : List ℕ) → IsClosed x.vars x.nodes l → SeenIs c.self.inside.marks.items l → SeenIs c.visit-self-inside.new.seen.items (below x.nodes x.vars 0 c.args.r.place ++ l)) c.self.view_is (subst (λ (ns : List Node). (l : List ℕ) → IsClosed c.self.inside.vars ns l → SeenIs c.self.inside.marks.items l → SeenIs c.visit-self-inside.new.seen.items (below ns c.self.inside.vars 0 c.args.r.place ++ l)) c.deref.ensures.value c.visit-self-inside.ensures.seen) in
    let each = places_live d fs live in
    let seen : SeenIs c.visit-self-inside.new.seen.items (flat_map (below d.nodes d.vars 0) (places_of (c.args.r ∷ fs))) = visited (flat_map (below d.nodes d.vars 0) (places_of fs)) (closed_all d.vars d.nodes ok (places_of fs) each) is_marks in
    subst (λ (x : Diagram). SeenIs c.visit-self-inside.new.seen.items (flat_map (below x.nodes x.vars 0) (places_of (c.args.r ∷ fs)))) (sym c.self.view_is) seen

pub returns-clause-count : goal.returns-clause-count
unfolding IsReduced HasMarks IsLive
returns-clause-count c fs live is =
    let d = c.args.self.now in
    let ok : IsReduced d = subst IsReduced c.self.view_is c.self.invariant.reduced in
    let is_marks : SeenIs c.self.inside.marks.items (flat_map (below d.nodes d.vars 0) (places_of fs)) = subst (λ (x : Diagram). SeenIs x.marks (flat_map (below d.nodes d.vars 0) (places_of fs))) (sym c.self.view_is) is in
    let visited = subst (λ (x : Diagram). (l : List ℕ) → IsClosed x.vars x.nodes l → SeenIs c.self.inside.marks.items l → SeenIs c.visit-self-inside.new.seen.items (below x.nodes x.vars 0 c.args.r.place ++ l)) c.self.view_is (subst (λ (ns : List Node). (l : List ℕ) → IsClosed c.self.inside.vars ns l → SeenIs c.self.inside.marks.items l → SeenIs c.visit-self-inside.new.seen.items (below ns c.self.inside.vars 0 c.args.r.place ++ l)) c.deref.ensures.value c.visit-self-inside.ensures.seen) in
    let each = places_live d fs live in
    let seen : SeenIs c.visit-self-inside.new.seen.items (flat_map (below d.nodes d.vars 0) (places_of (c.args.r ∷ fs))) = visited (flat_map (below d.nodes d.vars 0) (places_of fs)) (closed_all d.vars d.nodes ok (places_of fs) each) is_marks in
    c.visit-self-inside.ensures.counted ∙ count_is d ok (c.args.r ∷ fs) (c.requires, each) c.visit-self-inside.new.seen.items seen

pub returns-clause-keeps : goal.returns-clause-keeps
unfolding IsReduced
returns-clause-keeps c =
    let d = c.args.self.now in
    let ok : IsReduced d = subst IsReduced c.self.view_is c.self.invariant.reduced in
    let same_vars = ap (λ (x : Diagram). x.vars) c.self.view_is in
    let same_nodes = ap (λ (x : Diagram). x.nodes) c.self.view_is in
    same_keeps d _ ok same_vars same_nodes

pub returns-clause-none_fresh : goal.returns-clause-none_fresh
unfolding IsReduced
returns-clause-none_fresh c =
    let d = c.args.self.now in
    let ok : IsReduced d = subst IsReduced c.self.view_is c.self.invariant.reduced in
    let same_vars = ap (λ (x : Diagram). x.vars) c.self.view_is in
    let same_nodes = ap (λ (x : Diagram). x.nodes) c.self.view_is in
    let e : Diagram = the_view (record c.self.inside { marks = c.visit-self-inside.new.seen; marked = c.visit-self-inside.result }) in
    same_live d e same_vars same_nodes

pub returns-clause-held : goal.returns-clause-held
unfolding IsReduced
returns-clause-held c =
    let d = c.args.self.now in
    let ok : IsReduced d = subst IsReduced c.self.view_is c.self.invariant.reduced in
    let same_vars = ap (λ (x : Diagram). x.vars) c.self.view_is in
    let same_nodes = ap (λ (x : Diagram). x.nodes) c.self.view_is in
    same_held d _ same_vars same_nodes

pub returns-clause-sound : goal.returns-clause-sound
unfolding IsReduced
returns-clause-sound c =
    c.self.invariant.reduced

pub returns-clause-canonical : goal.returns-clause-canonical
unfolding IsReduced
returns-clause-canonical c =
    let e : Diagram = the_view (record c.self.inside { marks = c.visit-self-inside.new.seen; marked = c.visit-self-inside.result }) in
    equal_refs e c.self.invariant.reduced
