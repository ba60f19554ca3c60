use Rattle.std.proofs.Common.{rules, ◌≡◌, ◌<◌, ℕ, List, length, take, subst}
use Rattle.law_obligations.specs.Sets.{Has}
use Rattle.smv_bit_order.proofs.Picked.{taken_within, elements_picked}
use Rattle.smv_bit_order.proofs.candidates.elements_met.Goals as goal

pub elements_at-requires : goal.elements_at-requires
elements_at-requires c = λ q h.
    let i = c.in-Ok.is in
    let j = c.try_from.ensures in
    let counted : c.in-Ok.count ≡ length c.as_slice-all.result.now = search (rules, i, j) in
    let k = c.truncate.ensures.items in
    let l = c.as_slice.ensures.value in
    let shown : c.as_slice.result.now ≡ take (length c.args.met.now) c.in_ok-order.order.items = search (rules, k, l) in
    subst (λ (n : ℕ). q < n) counted (taken_within c.in-Ok.count c.in_ok-order.order.items c.in_ok-order.ensures (length c.args.met.now) q (subst (λ (ns : List ℕ). Has ns q) shown h))

pub returns : goal.returns
returns c =
    let i = c.in-Ok.is in
    let j = c.try_from.ensures in
    let counted : c.in-Ok.count ≡ length c.args.problem.now.elements = search (rules, i, j, c.as_slice-all.ensures) in
    let k = c.truncate.ensures.items in
    let l = c.as_slice.ensures.value in
    let shown : c.as_slice.result.now ≡ take (length c.args.met.now) c.in_ok-order.order.items = search (rules, k, l) in
    elements_picked c.args.problem.now c.in-Ok.count c.in_ok-order.order.items c.as_slice.result.now (length c.args.met.now) counted c.in_ok-order.ensures shown c.as_slice-all.result.now c.in_ok-wires.wires.items c.as_slice-all.ensures c.in_ok-wires.ensures
