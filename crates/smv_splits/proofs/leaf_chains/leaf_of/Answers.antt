use Rattle.std.proofs.Common.{◌∙◌, ap, map}
use Rattle.law_obligations.specs.Outlines.{unit_in}
use Rattle.smv_splits.specs.Links.{held, link_held, leaf_at_end}
use Rattle.smv_splits.proofs.LinkLaws.{leaf-is}
use Rattle.smv_splits.proofs.leaf_chains.leaf_of.Goals as goal

pub returns : goal.returns
returns c =
    leaf-is c.args.design.now c.args.place (unit_in c.args.design.now c.args.unit) c.in_ok-name.name c.in_ok-params.params.items (map link_held c.new-links.result.items) c.in_ok-leaf.leaf
    c.in_ok-name.ensures c.in_ok-params.ensures (ap (map link_held) c.new-links.ensures.items)
    (c.in_ok-leaf.ensures ∙ (ap (λ k. leaf_at_end k (held c.follow.new.chain)) c.in_ok-number.ensures ∙ ap (leaf_at_end c.args.place) c.in_ok-follow.ensures))
