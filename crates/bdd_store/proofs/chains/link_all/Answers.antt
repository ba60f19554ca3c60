use Rattle.std.proofs.Common.{◌≡◌, ℕ, ◌+◌, ◌<◌, ◌≤◌, ◌⊎◌, List, ◌++◌, length, get_or, set, take, refl, sym, ◌∙◌, ap, subst, arith, inl, inr}
use Rattle.std.proofs.Math.Seq.{take-append_seam}
use Rattle.std.proofs.lemmas.List.{get_or_default}
use Rattle.bdd_store.specs.declared.chains.Node.{Node}
use Rattle.bdd_store.specs.Graph.{node_at}
use Rattle.bdd_store.specs.Chains.{IsPower, Chained, home, bucket_of}
use Rattle.bdd_store.proofs.ChainLaws.{cases_eq, power_pos, home_free}
use Rattle.bdd_store.proofs.Links.{none_linked}
use Rattle.bdd_store.proofs.Writes.{read_at, same_graph_self, graph_trans, link_written, node_linked, free_linked, head_below, free_below}
use Rattle.bdd_store.proofs.Puts.{home_put}
use Rattle.bdd_store.proofs.chains.link_all.Goals.{then-node-vars, else-node-vars}
use Rattle.bdd_store.proofs.chains.link_all.Goals as goal

seam : (n : ℕ) (xs ys : List ℕ) → length xs ≡ n → take n (xs ++ ys) ≡ xs
seam n xs ys e = ap (λ k. take k (xs ++ ys)) (sym e) ∙ take-append_seam xs ys

-- places up to m
more_to : (m r : ℕ) → r < m + 1 → (r < m) ⊎ (r ≡ m)
more_to m r lt = elim (cases_eq r m) [ inl at ↦ inr at | inr ne ↦ inl (omega arith) ]

most_to : (m r : ℕ) → (r < m) ⊎ (r ≡ m) → r < m + 1
most_to m r is = elim is [ inl lt ↦ omega arith | inr at ↦ omega arith ]

pub loop-place-init : goal.loop-place-init
loop-place-init c =
    let zs = c.loop-head.head-items in
    let len : length zs ≡ c.args.heads.now.len = omega (arith, c.loop-head.auto.head-items, c.deref_mut-head-items.ensures.value, c.deref_mut-head-items.ensures.len, c.args.heads.now.ok.0) in
    record {
      same = same_graph_self c.args.nodes.now.items;
      chained = subst (λ hs. Chained c.args.vars c.args.nodes.now.items hs 0 (λ r. r < 2)) (sym (seam c.args.heads.now.len zs _ len))
          (none_linked c.args.vars c.args.nodes.now.items zs (subst IsPower (sym (len ∙ c.args.heads.now.ok.0)) c.requires.power) c.requires.ends (λ k lt. c.loop-head.invariant k (omega (arith, lt, c.loop-head.auto.head-items, c.loop-head-test.false))));
    }

pub loop-place-preserved : goal.loop-place-preserved
loop-place-preserved c =
    let at = c.loop-place.place in
    let n = c.args.vars in
    let ns = c.loop-place.nodes.items in
    let hs = c.loop-place.heads.items in
    let ok = c.loop-place.invariant.chained in
    let within : at < length ns = omega (arith, c.loop-place.nodes.ok.0, c.loop-place.auto.place, c.loop-place-test.true) in
    let two : 2 ≤ at = omega (arith, c.loop-place.auto.place) in
    let pos = power_pos (length hs) ok.power in
    let read = read_at ns at c.index-node.result.now within c.index-node.ensures in
    let var = ap (λ (y : Node). y.var) read in
    let low = ap (λ (y : Node). y.low) read in
    let high = ap (λ (y : Node). y.high) read in
    elim c.if-node-vars.branch [
      | then-node-vars w ↦ rw (w.nodes-is, w.heads-is, w.free-is)
          (let lt : (node_at ns at).var < n = omega (arith, var, w.if-node-vars.true) in
          let b = w.bucket_of-bucket.result in
          let lt_b : b < length hs = omega (arith, w.bucket_of-bucket.ensures.within, w.len.ensures, c.loop-place.heads.ok.0) in
          let is_b : b ≡ home n ns (length hs) at = w.bucket_of-bucket.ensures.bucket ∙ ap (bucket_of c.index-node.result.now.var c.index-node.result.now.low c.index-node.result.now.high) (w.len.ensures ∙ c.loop-place.heads.ok.0) ∙ sym (home_put n ns (length hs) at c.index-node.result.now (sym read) w.if-node-vars.true) in
          let is_h : w.index.result.now ≡ get_or hs b 0 = w.index.ensures ∙ get_or_default hs b w.index.result.now 0 lt_b in
          record {
            same = graph_trans c.args.nodes.now.items ns (set ns at _) c.loop-place.invariant.same (link_written ns at _ within var low high);
            chained = node_linked n ns hs c.loop-place.free (λ r. r < at) (λ r. r < at + 1) at _ ok two within (λ lt_at. omega arith) (more_to at) (most_to at) var low high b w.index.result.now lt_b is_b is_h (omega (arith, is_h, head_below n ns hs c.loop-place.free at ok (omega arith) b lt_b)) refl;
          })
      | else-node-vars w ↦ rw (w.nodes-is, w.heads-is, w.free-is)
          (let is_free = home_free n ns (length hs) at (omega (arith, var, w.if-node-vars.false)) in
          record {
            same = graph_trans c.args.nodes.now.items ns (set ns at _) c.loop-place.invariant.same (link_written ns at _ within var low high);
            chained = free_linked n ns hs c.loop-place.free (λ r. r < at) (λ r. r < at + 1) at _ ok two within (λ lt_at. omega arith) (more_to at) (most_to at) var low high (sym is_free) (free_below n ns hs c.loop-place.free at ok (omega arith)) refl;
          })
    ]

pub returns-clause-chained : goal.returns-clause-chained
returns-clause-chained c =
    let ns = c.loop-place.nodes.items in
    let ok = c.loop-place.invariant.chained in
    let end : c.loop-place.place ≡ length ns = omega (arith, c.loop-place.nodes.ok.0, c.loop-place.auto.place, c.loop-place-test.false) in
    subst (λ m. Chained c.args.vars ns c.loop-place.heads.items c.loop-place.free (λ r. r < m)) end ok
