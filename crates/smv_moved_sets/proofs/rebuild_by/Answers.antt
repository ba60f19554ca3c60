use Rattle.std.proofs.Common.{rules, ◌∙◌, ◌≤◌, ◌<◌, ◌/◌, ℕ, List, arith, sym, ap, subst, length, if◌then◌else◌}
use Rattle.bdd_store.specs.declared.Ref.{Ref}
use Rattle.bdd_store.specs.Diagram.{IsLive, table, ref_at}
use Rattle.smv_proof.specs.declared.proof.Node.{Node}
use Rattle.smv_moved_sets.proofs.Built.{AreBuilt, at_line, next_line, last_line, root_is, root_in, ref_is}
use Rattle.smv_moved_sets.proofs.rebuild_by.Goals as goal

pub index-low-requires : goal.index-low-requires
index-low-requires c =
    let lt = (at_line c.args.store.now c.args.bits.now c.loop-node.store c.args.set.now c.as_slice-node-items.result.now c.loop-node.node-index c.loop-node.refs.items c.requires.set c.requires.below c.as_slice-node-items.ensures c.loop-node-test.true c.loop-node.invariant).low in
    let ok = c.loop-node.refs.ok in
    omega (arith, lt, ok)

pub index-high-requires : goal.index-high-requires
index-high-requires c =
    let lt = (at_line c.args.store.now c.args.bits.now c.loop-node.store c.args.set.now c.as_slice-node-items.result.now c.loop-node.node-index c.loop-node.refs.items c.requires.set c.requires.below c.as_slice-node-items.ensures c.loop-node-test.true c.loop-node.invariant).high in
    let ok = c.loop-node.refs.ok in
    omega (arith, lt, ok)

pub choose-requires-clause-condition : goal.choose-requires-clause-condition
choose-requires-clause-condition c =
    let at = at_line c.args.store.now c.args.bits.now c.loop-node.store c.args.set.now c.as_slice-node-items.result.now c.loop-node.node-index c.loop-node.refs.items c.requires.set c.requires.below c.as_slice-node-items.ensures c.loop-node-test.true c.loop-node.invariant in
    let from = c.from.ensures in
    let lt = at.bit in
    let within : c.from.result / 2 < length c.args.bits.now = omega (arith, lt, from) in
    c.loop-node.invariant.keeps.live _ (c.requires.bits _ within)

pub choose-requires-clause-low : goal.choose-requires-clause-low
choose-requires-clause-low c =
    let at = at_line c.args.store.now c.args.bits.now c.loop-node.store c.args.set.now c.as_slice-node-items.result.now c.loop-node.node-index c.loop-node.refs.items c.requires.set c.requires.below c.as_slice-node-items.ensures c.loop-node-test.true c.loop-node.invariant in
    subst (IsLive c.loop-node.store) (sym (ref_is c.loop-node.refs.items _ c.index-low.result.now _ at.low c.index-low.ensures)) at.live_low

pub choose-requires-clause-high : goal.choose-requires-clause-high
choose-requires-clause-high c =
    let at = at_line c.args.store.now c.args.bits.now c.loop-node.store c.args.set.now c.as_slice-node-items.result.now c.loop-node.node-index c.loop-node.refs.items c.requires.set c.requires.below c.as_slice-node-items.ensures c.loop-node-test.true c.loop-node.invariant in
    subst (IsLive c.loop-node.store) (sym (ref_is c.loop-node.refs.items _ c.index-high.result.now _ at.high c.index-high.ensures)) at.live_high

pub loop-node-preserved : goal.loop-node-preserved
loop-node-preserved c =
    let old = c.args.store.now in
    let at = at_line c.args.store.now c.args.bits.now c.loop-node.store c.args.set.now c.as_slice-node-items.result.now c.loop-node.node-index c.loop-node.refs.items c.requires.set c.requires.below c.as_slice-node-items.ensures c.loop-node-test.true c.loop-node.invariant in
    let low = ref_is c.loop-node.refs.items _ c.index-low.result.now _ at.low c.index-low.ensures in
    let high = ref_is c.loop-node.refs.items _ c.index-high.result.now _ at.high c.index-high.ensures in
    let from = c.from.ensures in
    let lt = at.bit in
    let within : c.from.result / 2 < length c.args.bits.now = omega (arith, lt, from) in
    let made = c.in_ok-made.made in
    subst (AreBuilt c.args.store.now c.choose.new.store c.args.bits.now _) (sym c.in_ok-push-3.ensures.items)
    (next_line c.args.store.now c.loop-node.store c.choose.new.store c.args.bits.now c.args.set.now c.as_slice-node-items.result.now c.loop-node.node-index c.loop-node.refs.items made at c.loop-node.invariant
    (search rules) c.in_ok-made.ensures.keeps c.in_ok-made.ensures.live
    (λ a. c.in_ok-made.ensures.table a ∙ λ i. if (c.loop-node.invariant.keeps.tables _ (c.requires.bits _ within) a ∙ ap (λ (n : ℕ). table c.args.store.now (ref_at c.args.bits.now (n / 2)) a) from) i then table c.loop-node.store (high i) a else table c.loop-node.store (low i) a))

pub returns-clause-live : goal.returns-clause-live
returns-clause-live c =
    let le = subst (λ (ns : List Node). length ns ≤ c.loop-node.node-index) c.as_slice-node-items.ensures c.loop-node-test.false in
    let are = last_line c.args.store.now c.args.bits.now c.loop-node.store c.args.set.now c.loop-node.node-index c.loop-node.refs.items le c.loop-node.invariant in
    let count = are.count in
    let root = root_in c.args.set.now c.requires.set in
    let is = ref_is c.loop-node.refs.items c.args.set.now.root c.index.result.now c.index.result.now (omega (arith, count, root)) c.index.ensures in
    subst (IsLive c.loop-node.store) (sym is) (root_is c.args.store.now c.loop-node.store c.args.bits.now c.args.set.now c.loop-node.refs.items c.requires.set are).0

pub returns-clause-table : goal.returns-clause-table
returns-clause-table c =
    let le = subst (λ (ns : List Node). length ns ≤ c.loop-node.node-index) c.as_slice-node-items.ensures c.loop-node-test.false in
    let are = last_line c.args.store.now c.args.bits.now c.loop-node.store c.args.set.now c.loop-node.node-index c.loop-node.refs.items le c.loop-node.invariant in
    let count = are.count in
    let root = root_in c.args.set.now c.requires.set in
    let is = ref_is c.loop-node.refs.items c.args.set.now.root c.index.result.now c.index.result.now (omega (arith, count, root)) c.index.ensures in
    λ a. ap (λ (r : Ref). table c.loop-node.store r a) is ∙ (root_is c.args.store.now c.loop-node.store c.args.bits.now c.args.set.now c.loop-node.refs.items c.requires.set are).1 a
