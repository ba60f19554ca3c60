use Rattle.std.proofs.Common.{◌≡◌, sym, ◌∙◌, ap, subst, arith}
use Rattle.bdd_store.specs.contracts.Store.{the_view}
use Rattle.bdd_store.specs.Diagram.{Diagram, IsReduced, held}
use Rattle.bdd_store.proofs.Laws.{equal_refs}
use Rattle.bdd_store.proofs.NodeLaws.{same_keeps, same_marks, same_live, same_held, held_is}
use Rattle.bdd_store.proofs.Store.hold_at_most.Goals as goal

pub returns-clause-spare : goal.returns-clause-spare
returns-clause-spare c =
    let e : Diagram = the_view (record c.self.inside { most = c.args.most }) in
    let is : held e ≡ c.self.inside.held = held_is e ∙ sym c.self.invariant.held_counted in
    omega (arith, is)

pub returns-clause-keeps : goal.returns-clause-keeps
unfolding IsReduced
returns-clause-keeps c =
    let d = c.args.self.now in
    same_keeps d _ (subst IsReduced c.self.view_is c.self.invariant.reduced) (ap (λ (x : Diagram). x.vars) c.self.view_is) (ap (λ (x : Diagram). x.nodes) c.self.view_is)

pub returns-clause-none_fresh : goal.returns-clause-none_fresh
unfolding IsReduced
returns-clause-none_fresh c =
    let e : Diagram = the_view (record c.self.inside { most = c.args.most }) in
    same_live c.args.self.now e (ap (λ (x : Diagram). x.vars) c.self.view_is) (ap (λ (x : Diagram). x.nodes) c.self.view_is)

pub returns-clause-held : goal.returns-clause-held
unfolding IsReduced
returns-clause-held c = same_held c.args.self.now _ (ap (λ (x : Diagram). x.vars) c.self.view_is) (ap (λ (x : Diagram). x.nodes) c.self.view_is)

pub returns-clause-marks : goal.returns-clause-marks
unfolding IsReduced
returns-clause-marks c =
    let d = c.args.self.now in
    same_marks d _ (subst IsReduced c.self.view_is c.self.invariant.reduced) (ap (λ (x : Diagram). x.vars) c.self.view_is) (ap (λ (x : Diagram). x.nodes) c.self.view_is) (ap (λ (x : Diagram). x.marks) c.self.view_is)

pub returns-clause-sound : goal.returns-clause-sound
unfolding IsReduced
returns-clause-sound c =
    c.self.invariant.reduced

pub returns-clause-canonical : goal.returns-clause-canonical
unfolding IsReduced
returns-clause-canonical c =
    let e : Diagram = the_view (record c.self.inside { most = c.args.most }) in
    equal_refs e c.self.invariant.reduced
