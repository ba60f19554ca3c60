use Rattle.std.proofs.Common.{ap, subst, arith}
use Rattle.bdd_store.specs.contracts.Store.{the_view}
use Rattle.bdd_store.specs.Diagram.{Diagram, IsReduced, HasMarks}
use Rattle.bdd_store.proofs.Laws.{equal_refs}
use Rattle.bdd_store.proofs.CountLaws.{none_counted}
use Rattle.bdd_store.proofs.NodeLaws.{same_keeps, same_live, same_held}
use Rattle.bdd_store.proofs.Store.clear_marks.Goals as goal

pub invariant_of-self : goal.invariant_of-self
invariant_of-self c =
    let is = c.self.invariant in
    record {
      reduced = is.reduced;
      chained = is.chained;
      few = is.few;
      held_counted = is.held_counted;
      flags = omega (arith, is.flags, c.clear.ensures.room, c.clear.new.seen.ok.0, c.self.inside.marks.ok.0);
      marks_counted = none_counted c.clear.new.seen.items c.clear.ensures.clear;
      known = is.known;
    }

pub returns-clause-marks : goal.returns-clause-marks
unfolding HasMarks
returns-clause-marks c =
    c.clear.ensures.clear

pub returns-clause-keeps : goal.returns-clause-keeps
unfolding IsReduced
returns-clause-keeps c =
    let d = c.args.self.now in
    let ok : IsReduced d = subst IsReduced c.self.view_is c.self.invariant.reduced in
    let same_vars = ap (λ (x : Diagram). x.vars) c.self.view_is in
    let same_nodes = ap (λ (x : Diagram). x.nodes) c.self.view_is in
    same_keeps d _ ok same_vars same_nodes

pub returns-clause-none_fresh : goal.returns-clause-none_fresh
unfolding IsReduced
returns-clause-none_fresh c =
    let d = c.args.self.now in
    let ok : IsReduced d = subst IsReduced c.self.view_is c.self.invariant.reduced in
    let same_vars = ap (λ (x : Diagram). x.vars) c.self.view_is in
    let same_nodes = ap (λ (x : Diagram). x.nodes) c.self.view_is in
    let e : Diagram = the_view (record c.self.inside { marks = c.clear.new.seen; marked = 0 }) in
    same_live d e same_vars same_nodes

pub returns-clause-held : goal.returns-clause-held
unfolding IsReduced
returns-clause-held c =
    let d = c.args.self.now in
    let ok : IsReduced d = subst IsReduced c.self.view_is c.self.invariant.reduced in
    let same_vars = ap (λ (x : Diagram). x.vars) c.self.view_is in
    let same_nodes = ap (λ (x : Diagram). x.nodes) c.self.view_is in
    same_held d _ same_vars same_nodes

pub returns-clause-sound : goal.returns-clause-sound
unfolding IsReduced
returns-clause-sound c =
    c.self.invariant.reduced

pub returns-clause-canonical : goal.returns-clause-canonical
unfolding IsReduced
returns-clause-canonical c =
    let e : Diagram = the_view (record c.self.inside { marks = c.clear.new.seen; marked = 0 }) in
    equal_refs e c.self.invariant.reduced
