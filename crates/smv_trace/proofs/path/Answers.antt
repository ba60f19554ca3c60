use Rattle.std.proofs.Common.{◌<◌, ℕ, List, Bool, length, ap, sym, subst, ◌∙◌}
use Rattle.std.specs.List.{All}
use Rattle.std.specs.Global.{Vec}
use Rattle.law_obligations.specs.Sets.{Has}
use Rattle.smv_orders.specs.Places.{ArePlaces}
use Rattle.smv_orders.proofs.Orders.{order_few, order_whole, places_counted}
use Rattle.smv_rings.specs.Lists.{State, lists_of}
use Rattle.smv_rings.specs.Paths.{IsViolating}
use Rattle.smv_rings.proofs.Refs.{live_each}
use Rattle.smv_ring_paths.specs.BitPaths.{HasBits, IsBitPath}
use Rattle.smv_trace.proofs.Paths.{rings_count, rings_given, have_bits, read_path}
use Rattle.smv_trace.proofs.path.Goals as goal

pub prove-unreachable-requires : goal.prove-unreachable-requires
prove-unreachable-requires c = c.if-prove.true (rings_count c.args.store.now (lists_of c.args.store.now c.args.rel.now) c.args.rings.now c.args.depth c.requires.rings)

pub ring_path-requires-clause-live : goal.ring_path-requires-clause-live
ring_path-requires-clause-live c = live_each c.args.store.now c.args.rings.now c.requires.live

pub ring_path-requires-clause-rings : goal.ring_path-requires-clause-rings
ring_path-requires-clause-rings c = rings_given c.args.store.now (lists_of c.args.store.now c.args.rel.now) c.args.rings.now c.args.depth c.requires.rings

pub ring_path-requires-clause-none : goal.ring_path-requires-clause-none
ring_path-requires-clause-none c =
    subst (λ (n : ℕ). (k : ℕ) → k < n → (path : ℕ → State) → IsViolating (lists_of c.args.store.now c.args.rel.now) k path → ⊥)
    (sym (rings_count c.args.store.now (lists_of c.args.store.now c.args.rel.now) c.args.rings.now c.args.depth c.requires.rings)) c.requires.none

pub places_in-requires-clause-few : goal.places_in-requires-clause-few
places_in-requires-clause-few c = order_few c.args.problem.now c.args.order.now c.requires.order c.requires.well_formed

pub places_in-requires-clause-order : goal.places_in-requires-clause-order
places_in-requires-clause-order c = order_whole c.args.problem.now c.args.order.now c.requires.order c.requires.well_formed

pub read_states-requires-clause-count : goal.read_states-requires-clause-count
read_states-requires-clause-count c = places_counted c.args.problem.now c.args.order.now c.requires.order c.as_slice.result.now (ap (λ (ps : List ℕ). length ps) c.as_slice.ensures.value ∙ c.in_ok-places.ensures.count)

pub read_states-requires-clause-within : goal.read_states-requires-clause-within
read_states-requires-clause-within c = λ q h.
    subst (λ (n : ℕ). q < n) (sym (ap (λ (ps : List ℕ). length ps) c.as_slice.ensures.value ∙ c.in_ok-places.ensures.count)) (c.in_ok-places.ensures.within q (subst (λ (ps : List ℕ). Has ps q) c.as_slice.ensures.value h))

pub read_states-requires-clause-have_bits : goal.read_states-requires-clause-have_bits
read_states-requires-clause-have_bits c =
    subst (λ (states : List (Vec Bool)). All (HasBits (length c.as_slice.result.now)) states) (sym c.deref.ensures.value)
    (have_bits c.args.problem.now c.requires.well_formed (lists_of c.args.store.now c.args.rel.now) c.args.order.now c.args.wires.now c.requires.lists (length c.as_slice.result.now) (ap (λ (ps : List ℕ). length ps) c.as_slice.ensures.value ∙ c.in_ok-places.ensures.count) c.in_ok-states.states.items c.in_ok-states.ensures.path.have_bits)

pub returns-clause-shortest : goal.returns-clause-shortest
returns-clause-shortest c =
    read_path c.args.problem.now c.args.order.now c.args.wires.now (lists_of c.args.store.now c.args.rel.now) c.requires.lists _ c.args.depth (rings_count c.args.store.now (lists_of c.args.store.now c.args.rel.now) c.args.rings.now c.args.depth c.requires.rings) c.deref.result.now
    (subst (IsBitPath (lists_of c.args.store.now c.args.rel.now) _) (sym c.deref.ensures.value) c.in_ok-states.ensures.path) c.requires.none c.in_ok-path.path
    (λ d is well. c.in_ok-path.ensures d is well c.args.order.now (subst (ArePlaces c.args.order.now 0) (sym c.as_slice.ensures.value) c.in_ok-places.ensures.are))
