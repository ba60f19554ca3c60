use Rattle.std.proofs.Common.{◌≢◌, ◌<◌, List, length, set, refl, sym, ◌∙◌, ap, subst, arith}
use Rattle.std.proofs.Math.ListN.{length-set}
use Rattle.std.proofs.lemmas.List.{get_or_default}
use Rattle.bdd_store.specs.declared.chains.Node.{Node}
use Rattle.bdd_store.specs.Graph.{node_at}
use Rattle.bdd_store.specs.Chains.{InChain, IsFalling, AllOf, AllBut}
use Rattle.bdd_store.proofs.ChainLaws.{at_start}
use Rattle.bdd_store.proofs.Writes.{read_at, node_linked, node_behind, but_more, but_most}
use Rattle.bdd_store.proofs.chains.link.Goals as goal

pub last_above-before-requires-clause-above : goal.last_above-before-requires-clause-above
last_above-before-requires-clause-above c =
    let lt_b : c.args.bucket < length c.args.heads.now.items = omega (arith, c.args.heads.now.ok.0, c.requires.bucket_in) in
    let is = c.index-head.ensures in
    let ne : c.index-head.result.now ≢ c.args.place = λ e. c.requires.apart (at_start c.args.nodes.now.items _ _ (sym (is ∙ get_or_default c.args.heads.now.items c.args.bucket c.index-head.result.now 0 lt_b) ∙ e)) in
    omega (arith, c.if-head-place.false)

pub last_above-before-requires-clause-falling : goal.last_above-before-requires-clause-falling
last_above-before-requires-clause-falling c =
    let lt_b : c.args.bucket < length c.args.heads.now.items = omega (arith, c.args.heads.now.ok.0, c.requires.bucket_in) in
    let is = c.index-head.ensures ∙ get_or_default c.args.heads.now.items c.args.bucket c.index-head.result.now 0 lt_b in
    subst (λ (ns : List Node). IsFalling ns c.index-head.result.now) (sym c.deref.ensures.value) (subst (λ h. IsFalling c.args.nodes.now.items h) (sym is) c.requires.falling)

pub returns-then-head-place-clause-chained : goal.returns-then-head-place-clause-chained
returns-then-head-place-clause-chained c n free is_b ok =
    let lt_b : c.args.bucket < length c.args.heads.now.items = omega (arith, c.args.heads.now.ok.0, c.requires.bucket_in) in
    let within : c.args.place < length c.args.nodes.now.items = omega (arith, c.args.nodes.now.ok.0, c.requires.within) in
    let ns = c.args.nodes.now.items in
    let f = c.args.place in
    let node = read_at ns f c.index-node.result.now within c.index-node.ensures in
    let is = c.index-head.ensures ∙ get_or_default c.args.heads.now.items c.args.bucket c.index-head.result.now 0 lt_b in
    let len = length-set ns f _ in
    node_linked n ns c.args.heads.now.items free (AllBut ns f) (AllOf (set ns f _)) f _ ok c.requires.two within (λ is. is.1 refl) (but_more ns _ f len) (but_most ns _ f len within)
    (ap (λ x. x.var) node) (ap (λ x. x.low) node) (ap (λ x. x.high) node) c.args.bucket c.index-head.result.now lt_b is_b is c.if-head-place.true refl

pub returns-else-head-place-clause-chained : goal.returns-else-head-place-clause-chained
returns-else-head-place-clause-chained c n free is_b ok =
    let lt_b : c.args.bucket < length c.args.heads.now.items = omega (arith, c.args.heads.now.ok.0, c.requires.bucket_in) in
    let within : c.args.place < length c.args.nodes.now.items = omega (arith, c.args.nodes.now.ok.0, c.requires.within) in
    let ns = c.args.nodes.now.items in
    let f = c.args.place in
    let p = c.last_above-before.result in
    let same = c.deref.ensures.value in
    let chain : InChain ns c.index-head.result.now p = subst (λ (l : List Node). InChain l c.index-head.result.now p) same c.last_above-before.ensures.in_chain in
    let within_p : p < length ns = subst (λ (l : List Node). p < length l) same c.last_above-before.ensures.within in
    let next_p : (node_at ns p).next < f = subst (λ (l : List Node). (node_at l p).next < f) same c.last_above-before.ensures.next in
    let node = read_at ns f c.index-node.result.now within c.index-node.ensures in
    let node_p = read_at ns p c.index-above.result.now within_p c.index-above.ensures in
    let is = c.index-head.ensures ∙ get_or_default c.args.heads.now.items c.args.bucket c.index-head.result.now 0 lt_b in
    let len = length-set (set ns f _) p _ ∙ length-set ns f _ in
    node_behind n ns c.args.heads.now.items free (AllBut ns f) (AllOf (set (set ns f _) p _)) f _ ok c.requires.two within (λ is. is.1 refl) (but_more ns _ f len) (but_most ns _ f len within)
    (ap (λ x. x.var) node) (ap (λ x. x.low) node) (ap (λ x. x.high) node) c.args.bucket c.index-head.result.now p _ lt_b is_b is chain within_p c.last_above-before.ensures.above next_p
    (ap (λ x. x.next) node_p) (ap (λ x. x.var) node_p) (ap (λ x. x.low) node_p) (ap (λ x. x.high) node_p) refl
