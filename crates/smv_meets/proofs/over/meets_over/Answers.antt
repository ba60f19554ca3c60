use Rattle.std.proofs.Common.{◌∙◌, ℕ, List, length, sym, ap, subst}
use Rattle.bdd_store.specs.Diagram.{table}
use Rattle.smv_rings.specs.Lists.{lists_of}
use Rattle.smv_rings.proofs.Kept.{rel_kept, lists_kept}
use Rattle.law_obligations.specs.Readings.{state_bits}
use Rattle.smv_orders.specs.Places.{ArePlaces}
use Rattle.smv_orders.proofs.Orders.{order_few, order_whole, places_counted}
use Rattle.smv_meets.proofs.Orders.{vars_made, places_room, bits_live, below_shown, current_shown, moved_shown, answer_is}
use Rattle.smv_meets.proofs.over.meets_over.Goals as goal

pub places_in-requires-clause-few : goal.places_in-requires-clause-few
places_in-requires-clause-few c = order_few c.args.problem.now c.args.order.now c.requires.order c.requires.problem

pub places_in-requires-clause-order : goal.places_in-requires-clause-order
places_in-requires-clause-order c = order_whole c.args.problem.now c.args.order.now c.requires.order c.requires.problem

pub rebuild_by-requires-clause-bits : goal.rebuild_by-requires-clause-bits
rebuild_by-requires-clause-bits c = bits_live c.bits_at.new.store c.as_slice.result.now c.in_ok-functions.functions.items c.as_slice-2.result.now c.in_ok-functions.ensures.bits c.as_slice-2.ensures.value

pub rebuild_by-requires-clause-below : goal.rebuild_by-requires-clause-below
rebuild_by-requires-clause-below c =
    let q = c.requires.problem in
    below_shown c.args.set.now (state_bits q.0) (c.requires.below q.0 q.1 q.2) c.bits_at.new.store c.as_slice.result.now c.in_ok-functions.functions.items c.as_slice-2.result.now c.in_ok-functions.ensures.bits c.as_slice-2.ensures.value
    (places_counted c.args.problem.now c.args.order.now c.requires.order c.as_slice.result.now (ap (λ (ps : List ℕ). length ps) c.as_slice.ensures.value ∙ c.in_ok-places.ensures.count) q.0 q.1 q.2)

pub inductive-requires-clause-rel : goal.inductive-requires-clause-rel
inductive-requires-clause-rel c =
    rel_kept c.bits_at.new.store c.rebuild_by.new.store c.in_ok-rel.rel (rel_kept c.relations_over.new.store c.bits_at.new.store c.in_ok-rel.rel c.in_ok-rel.ensures.rel c.bits_at.ensures.keeps) c.rebuild_by.ensures.keeps

pub inductive-requires-clause-current : goal.inductive-requires-clause-current
inductive-requires-clause-current c =
    let q = c.requires.problem in
    current_shown c.args.set.now (state_bits q.0) (c.requires.below q.0 q.1 q.2) c.bits_at.new.store c.as_slice.result.now c.in_ok-functions.functions.items c.as_slice-2.result.now c.in_ok-functions.ensures.bits c.as_slice-2.ensures.value
    (places_counted c.args.problem.now c.args.order.now c.requires.order c.as_slice.result.now (ap (λ (ps : List ℕ). length ps) c.as_slice.ensures.value ∙ c.in_ok-places.ensures.count) q.0 q.1 q.2)
    c.rebuild_by.new.store c.in_ok-states.states c.in_ok-states.ensures.table

pub returns : goal.returns
returns c = λ case e well.
    answer_is c.orders_keep_induction.ensures case well.is_case c.args.order.now (c.requires.order case e well) c.args.set.now (c.requires.below case e well) (lists_of c.rebuild_by.new.store c.in_ok-rel.rel)
    (lists_kept c.bits_at.new.store c.rebuild_by.new.store c.in_ok-rel.rel (rel_kept c.relations_over.new.store c.bits_at.new.store c.in_ok-rel.rel c.in_ok-rel.ensures.rel c.bits_at.ensures.keeps) c.rebuild_by.ensures.keeps
    ∙ (lists_kept c.relations_over.new.store c.bits_at.new.store c.in_ok-rel.rel c.in_ok-rel.ensures.rel c.bits_at.ensures.keeps ∙ c.in_ok-rel.ensures.lists case e well))
    (table c.rebuild_by.new.store c.in_ok-states.states)
    (moved_shown c.args.set.now (state_bits case) (c.requires.below case e well) c.bits_at.new.store c.as_slice.result.now c.in_ok-functions.functions.items c.as_slice-2.result.now c.in_ok-functions.ensures.bits c.as_slice-2.ensures.value
    (places_counted c.args.problem.now c.args.order.now c.requires.order c.as_slice.result.now (ap (λ (ps : List ℕ). length ps) c.as_slice.ensures.value ∙ c.in_ok-places.ensures.count) case e well)
    c.args.order.now (subst (ArePlaces c.args.order.now 0) (sym c.as_slice.ensures.value) c.in_ok-places.ensures.are) c.rebuild_by.new.store c.in_ok-states.states c.in_ok-states.ensures.table)
    c.in_ok-holds.holds c.in_ok-holds.ensures.means

pub bits_at-requires : goal.bits_at-requires
bits_at-requires c =
    places_room c.args.problem.now c.args.order.now c.requires.order c.requires.problem c.relations_over.new.store.vars (λ case e well. c.relations_over.ensures.keeps.vars ∙ (c.hold_at_most.ensures.keeps.vars ∙ vars_made c.args.problem.now c.in_ok-store.store.vars c.from.result c.state_bits-bits.result c.in_ok-store.ensures.vars c.from.ensures c.state_bits-bits.ensures case e well))
    c.in_ok-places.places.items c.as_slice.result.now c.as_slice.ensures.value c.in_ok-places.ensures.within
