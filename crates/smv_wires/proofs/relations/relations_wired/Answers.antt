use Rattle.std.proofs.Common.{length, List, ℕ, [], sym, subst, ap, ◌∙◌}
use Rattle.smv_orders.specs.Places.{ArePlaces}
use Rattle.smv_orders.proofs.Orders.{order_few, order_whole, places_counted}
use Rattle.smv_encode.proofs.Calls.{vars_on, within_on}
use Rattle.smv_encode.proofs.CodedCells.{bits_room}
use Rattle.smv_encode.proofs.Ordered.{places_within}
use Rattle.smv_wires.specs.Tried.{AreTried}
use Rattle.smv_wires.proofs.Under.{whole_wired, whole_arranged}
use Rattle.smv_wires.proofs.relations.relations_wired.Goals as goal

pub places_in-requires-clause-few : goal.places_in-requires-clause-few
places_in-requires-clause-few c = order_few c.args.problem.now c.args.order.now c.requires.order c.requires.well_formed

pub places_in-requires-clause-order : goal.places_in-requires-clause-order
places_in-requires-clause-order c = order_whole c.args.problem.now c.args.order.now c.requires.order c.requires.well_formed

pub wired_cells-requires-clause-room : goal.wired_cells-requires-clause-room
wired_cells-requires-clause-room c =
    bits_room c.args.problem.now (length c.as_slice.result.now) c.requires.well_formed (places_counted c.args.problem.now c.args.order.now c.requires.order c.as_slice.result.now (ap (λ (ps : List ℕ). length ps) c.as_slice.ensures.value ∙ c.in_ok-places.ensures.count))

pub wired_cells-requires-clause-places : goal.wired_cells-requires-clause-places
wired_cells-requires-clause-places c = places_within c.args.problem.now c.args.order.now c.requires.order c.args.store.now c.in_ok-places.places.items c.as_slice.result.now c.as_slice.ensures.value c.requires.well_formed c.requires.vars c.in_ok-places.ensures.within

pub relations_by-requires-clause-vars : goal.relations_by-requires-clause-vars
relations_by-requires-clause-vars c = vars_on c.args.problem.now c.args.store.now c.wired_cells.new.store c.in_ok-made.ensures.keeps c.requires.vars

pub relations_by-requires-clause-count : goal.relations_by-requires-clause-count
relations_by-requires-clause-count c = places_counted c.args.problem.now c.args.order.now c.requires.order c.as_slice-2.result.now (ap (λ (ps : List ℕ). length ps) c.as_slice-2.ensures.value ∙ c.in_ok-places.ensures.count)

pub relations_by-requires-clause-places : goal.relations_by-requires-clause-places
relations_by-requires-clause-places c =
    within_on c.args.store.now c.wired_cells.new.store c.as_slice-2.result.now c.in_ok-made.ensures.keeps
    (places_within c.args.problem.now c.args.order.now c.requires.order c.args.store.now c.in_ok-places.places.items c.as_slice-2.result.now c.as_slice-2.ensures.value c.requires.well_formed c.requires.vars c.in_ok-places.ensures.within)

pub returns-clause-rel : goal.returns-clause-rel
returns-clause-rel c =
    let q = c.requires.well_formed in
    let xs = c.requires.candidates q.0 q.1 q.2 in
    let t : AreTried q.0 c.args.order.now [] c.wired_cells.new.store c.args.problem.now c.in_ok-made.made.wires.items c.in_ok-made.made.cells =
    c.in_ok-made.ensures.tried q.0 q.1 q.2 c.args.order.now (c.requires.order q.0 q.1 q.2) (subst (ArePlaces c.args.order.now 0) (sym c.as_slice.ensures.value) c.in_ok-places.ensures.are) xs.0 xs.1 xs.2 xs.3 in
    c.in_ok-rel.ensures.rel q.0 q.1 q.2 c.args.order.now t.done
    (whole_wired q.0 q.2 c.args.order.now c.wired_cells.new.store c.args.problem.now c.as_slice-2.result.now (subst (ArePlaces c.args.order.now 0) (sym c.as_slice-2.ensures.value) c.in_ok-places.ensures.are)
    (sym (ap (λ (ps : List ℕ). length ps) c.as_slice-2.ensures.value ∙ c.in_ok-places.ensures.count)) c.in_ok-made.made.wires.items c.as_slice-3.result.now c.as_slice-3.ensures.value c.in_ok-made.made.cells t)

pub returns-clause-lists : goal.returns-clause-lists
returns-clause-lists c = λ d is well.
    let xs = c.requires.candidates d is well in
    let t : AreTried d c.args.order.now [] c.wired_cells.new.store c.args.problem.now c.in_ok-made.made.wires.items c.in_ok-made.made.cells =
    c.in_ok-made.ensures.tried d is well c.args.order.now (c.requires.order d is well) (subst (ArePlaces c.args.order.now 0) (sym c.as_slice.ensures.value) c.in_ok-places.ensures.are) xs.0 xs.1 xs.2 xs.3 in
    let of = whole_wired d well c.args.order.now c.wired_cells.new.store c.args.problem.now c.as_slice-2.result.now (subst (ArePlaces c.args.order.now 0) (sym c.as_slice-2.ensures.value) c.in_ok-places.ensures.are)
    (sym (ap (λ (ps : List ℕ). length ps) c.as_slice-2.ensures.value ∙ c.in_ok-places.ensures.count)) c.in_ok-made.made.wires.items c.as_slice-3.result.now c.as_slice-3.ensures.value c.in_ok-made.made.cells t in
    (t.done, t.wires, whole_arranged d c.args.order.now (c.requires.order d is well) c.wired_cells.new.store c.args.problem.now c.in_ok-made.made.wires.items c.in_ok-made.made.cells t, c.in_ok-rel.ensures.lists d is well c.args.order.now t.done of)
