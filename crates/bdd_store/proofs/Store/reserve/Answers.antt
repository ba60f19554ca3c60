use Rattle.std.proofs.Common.{◌∙◌, ap, subst, arith}
use Rattle.bdd_store.specs.contracts.Store.{the_view}
use Rattle.bdd_store.specs.Diagram.{Diagram, IsReduced}
use Rattle.bdd_store.specs.Steps.{Stays}
use Rattle.bdd_store.proofs.Laws.{equal_refs}
use Rattle.bdd_store.proofs.Puts.{counted_few}
use Rattle.bdd_store.proofs.NodeLaws.{same_stays, same_sound}
use Rattle.bdd_store.proofs.Store.reserve.Goals as goal

pub overflow_add-used : goal.overflow_add-used
overflow_add-used c = omega (arith, counted_few c.self.inside.vars c.self.inside.nodes.items c.self.invariant.reduced.constants c.self.invariant.reduced.zero_last c.self.invariant.reduced.one_last, c.self.invariant.held_counted, c.self.invariant.few)

pub overflow_sub-used : goal.overflow_sub-used
overflow_sub-used c = omega (arith, counted_few c.self.inside.vars c.self.inside.nodes.items c.self.invariant.reduced.constants c.self.invariant.reduced.zero_last c.self.invariant.reduced.one_last, c.self.invariant.held_counted, c.self.invariant.few)

pub overflow_add-used-2 : goal.overflow_add-used-2
overflow_add-used-2 c = omega (arith, c.if-n-used.false, counted_few c.self.inside.vars c.self.inside.nodes.items c.self.invariant.reduced.constants c.self.invariant.reduced.zero_last c.self.invariant.reduced.one_last, c.self.invariant.held_counted, c.self.invariant.few)

pub returns-then-n-used-clause-sound : goal.returns-then-n-used-clause-sound
unfolding IsReduced
returns-then-n-used-clause-sound c =
    subst IsReduced c.self.view_is c.self.invariant.reduced

pub returns-then-n-used-clause-canonical : goal.returns-then-n-used-clause-canonical
unfolding IsReduced
returns-then-n-used-clause-canonical c =
    let ok : IsReduced c.args.self.now = subst IsReduced c.self.view_is c.self.invariant.reduced in
    equal_refs c.args.self.now ok

pub returns-in_err-reserve-clause-sound : goal.returns-in_err-reserve-clause-sound
unfolding IsReduced
returns-in_err-reserve-clause-sound c =
    let d = c.args.self.now in
    let ok : IsReduced c.args.self.now = subst IsReduced c.self.view_is c.self.invariant.reduced in
    let same_vars = ap (λ (x : Diagram). x.vars) c.self.view_is in
    let same_nodes = c.reserve.ensures.items ∙ ap (λ (x : Diagram). x.nodes) c.self.view_is in
    let e : Diagram = the_view (record c.self.inside { nodes = c.reserve.new.self }) in
    same_sound d e ok same_vars same_nodes

pub returns-in_err-reserve-clause-canonical : goal.returns-in_err-reserve-clause-canonical
unfolding IsReduced
returns-in_err-reserve-clause-canonical c =
    let d = c.args.self.now in
    let ok : IsReduced c.args.self.now = subst IsReduced c.self.view_is c.self.invariant.reduced in
    let same_vars = ap (λ (x : Diagram). x.vars) c.self.view_is in
    let same_nodes = c.reserve.ensures.items ∙ ap (λ (x : Diagram). x.nodes) c.self.view_is in
    let e : Diagram = the_view (record c.self.inside { nodes = c.reserve.new.self }) in
    equal_refs e (same_sound d e ok same_vars same_nodes)

pub returns-clause-keeps : goal.returns-clause-keeps
unfolding IsReduced
returns-clause-keeps c =
    let d = c.args.self.now in
    let ok : IsReduced c.args.self.now = subst IsReduced c.self.view_is c.self.invariant.reduced in
    let same_vars = ap (λ (x : Diagram). x.vars) c.self.view_is in
    let same_nodes = c.reserve.ensures.items ∙ ap (λ (x : Diagram). x.nodes) c.self.view_is in
    let e : Diagram = the_view (record c.self.inside { nodes = c.reserve.new.self; marks = c.reserve-2.new.self }) in
    let stays : Stays d e = same_stays d e ok same_vars same_nodes (c.reserve-2.ensures.items ∙ ap (λ (x : Diagram). x.marks) c.self.view_is) in
    stays.grows.keeps

pub returns-clause-none_fresh : goal.returns-clause-none_fresh
unfolding IsReduced
returns-clause-none_fresh c =
    let d = c.args.self.now in
    let ok : IsReduced c.args.self.now = subst IsReduced c.self.view_is c.self.invariant.reduced in
    let same_vars = ap (λ (x : Diagram). x.vars) c.self.view_is in
    let same_nodes = c.reserve.ensures.items ∙ ap (λ (x : Diagram). x.nodes) c.self.view_is in
    let e : Diagram = the_view (record c.self.inside { nodes = c.reserve.new.self; marks = c.reserve-2.new.self }) in
    let stays : Stays d e = same_stays d e ok same_vars same_nodes (c.reserve-2.ensures.items ∙ ap (λ (x : Diagram). x.marks) c.self.view_is) in
    stays.only

pub returns-clause-held : goal.returns-clause-held
unfolding IsReduced
returns-clause-held c =
    let d = c.args.self.now in
    let ok : IsReduced c.args.self.now = subst IsReduced c.self.view_is c.self.invariant.reduced in
    let same_vars = ap (λ (x : Diagram). x.vars) c.self.view_is in
    let same_nodes = c.reserve.ensures.items ∙ ap (λ (x : Diagram). x.nodes) c.self.view_is in
    let e : Diagram = the_view (record c.self.inside { nodes = c.reserve.new.self; marks = c.reserve-2.new.self }) in
    let stays : Stays d e = same_stays d e ok same_vars same_nodes (c.reserve-2.ensures.items ∙ ap (λ (x : Diagram). x.marks) c.self.view_is) in
    stays.held

pub returns-clause-marks : goal.returns-clause-marks
unfolding IsReduced
returns-clause-marks c =
    let d = c.args.self.now in
    let ok : IsReduced c.args.self.now = subst IsReduced c.self.view_is c.self.invariant.reduced in
    let same_vars = ap (λ (x : Diagram). x.vars) c.self.view_is in
    let same_nodes = c.reserve.ensures.items ∙ ap (λ (x : Diagram). x.nodes) c.self.view_is in
    let e : Diagram = the_view (record c.self.inside { nodes = c.reserve.new.self; marks = c.reserve-2.new.self }) in
    let stays : Stays d e = same_stays d e ok same_vars same_nodes (c.reserve-2.ensures.items ∙ ap (λ (x : Diagram). x.marks) c.self.view_is) in
    stays.grows.marks

pub returns-clause-sound : goal.returns-clause-sound
unfolding IsReduced
returns-clause-sound c =
    let d = c.args.self.now in
    let ok : IsReduced c.args.self.now = subst IsReduced c.self.view_is c.self.invariant.reduced in
    let same_vars = ap (λ (x : Diagram). x.vars) c.self.view_is in
    let same_nodes = c.reserve.ensures.items ∙ ap (λ (x : Diagram). x.nodes) c.self.view_is in
    let e : Diagram = the_view (record c.self.inside { nodes = c.reserve.new.self; marks = c.reserve-2.new.self }) in
    same_sound d e ok same_vars same_nodes

pub returns-clause-canonical : goal.returns-clause-canonical
unfolding IsReduced
returns-clause-canonical c =
    let d = c.args.self.now in
    let ok : IsReduced c.args.self.now = subst IsReduced c.self.view_is c.self.invariant.reduced in
    let same_vars = ap (λ (x : Diagram). x.vars) c.self.view_is in
    let same_nodes = c.reserve.ensures.items ∙ ap (λ (x : Diagram). x.nodes) c.self.view_is in
    let e : Diagram = the_view (record c.self.inside { nodes = c.reserve.new.self; marks = c.reserve-2.new.self }) in
    equal_refs e (same_sound d e ok same_vars same_nodes)
