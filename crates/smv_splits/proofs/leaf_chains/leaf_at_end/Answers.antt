use Rattle.std.proofs.Common.{◌≡◌, ◌∙◌, ap, map, length, arith}
use Rattle.std.specs.List.{flat_map}
use Rattle.smv_splits.specs.Links.{held, link_held, guards_at}
use Rattle.smv_splits.proofs.LinkLaws.{leaf-made}
use Rattle.smv_splits.proofs.leaf_chains.leaf_at_end.Goals as goal

pub returns : goal.returns
returns c =
    let same : c.len.result ≡ length c.args.chain.params.items = omega (arith, c.len.ensures, c.args.chain.params.ok.0) in
    leaf-made c.args.unit (held c.args.chain) c.in_ok-name.name c.from_vec.result c.from_vec-2.result c.in_ok-name.ensures c.from_vec.ensures
    (c.from_vec-2.ensures ∙ (c.in_ok-guards.ensures ∙ (ap (λ n. flat_map (guards_at n) (map link_held c.deref.result.now)) same
    ∙ ap (λ l. flat_map (guards_at (length c.args.chain.params.items)) (map link_held l)) c.deref.ensures.value)))
