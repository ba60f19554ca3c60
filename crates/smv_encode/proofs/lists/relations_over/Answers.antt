use Rattle.std.proofs.Common.{length, List, ℕ, sym, subst, ap, ◌∙◌}
use Rattle.smv_orders.specs.Places.{ArePlaces}
use Rattle.smv_orders.proofs.Orders.{order_few, order_whole, places_counted}
use Rattle.smv_encode.proofs.Ordered.{places_within}
use Rattle.smv_encode.proofs.lists.relations_over.Goals as goal

pub places_in-requires-clause-few : goal.places_in-requires-clause-few
places_in-requires-clause-few c = order_few c.args.problem.now c.args.order.now c.requires.order c.requires.well_formed

pub places_in-requires-clause-order : goal.places_in-requires-clause-order
places_in-requires-clause-order c = order_whole c.args.problem.now c.args.order.now c.requires.order c.requires.well_formed

pub relations_at-requires-clause-count : goal.relations_at-requires-clause-count
relations_at-requires-clause-count c = places_counted c.args.problem.now c.args.order.now c.requires.order c.as_slice.result.now (ap (λ (ps : List ℕ). length ps) c.as_slice.ensures.value ∙ c.in_ok-places.ensures.count)

pub relations_at-requires-clause-places : goal.relations_at-requires-clause-places
relations_at-requires-clause-places c = places_within c.args.problem.now c.args.order.now c.requires.order c.args.store.now c.in_ok-places.places.items c.as_slice.result.now c.as_slice.ensures.value c.requires.well_formed c.requires.vars c.in_ok-places.ensures.within

pub returns-clause-rel : goal.returns-clause-rel
returns-clause-rel c =
    c.in_ok-rel.ensures.rel c.args.order.now (subst (ArePlaces c.args.order.now 0) (sym c.as_slice.ensures.value) c.in_ok-places.ensures.are) (sym (ap (λ (ps : List ℕ). length ps) c.as_slice.ensures.value ∙ c.in_ok-places.ensures.count))

pub returns-clause-lists : goal.returns-clause-lists
returns-clause-lists c = λ d is well.
    c.in_ok-rel.ensures.lists d is well c.args.order.now (subst (ArePlaces c.args.order.now 0) (sym c.as_slice.ensures.value) c.in_ok-places.ensures.are) (sym (ap (λ (ps : List ℕ). length ps) c.as_slice.ensures.value ∙ c.in_ok-places.ensures.count))
