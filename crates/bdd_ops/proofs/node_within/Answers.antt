use Rattle.std.proofs.Common.{◌∙◌}
use Rattle.bdd_store.specs.Results.{made}
use Rattle.bdd_ops.proofs.Grown.{adds_node}
use Rattle.bdd_ops.proofs.node_within.Goals as goal

pub returns-then-held-limit-clause-adds : goal.returns-then-held-limit-clause-adds
returns-then-held-limit-clause-adds c =
    adds_node c.args.store.now c.result_node.new.store c.in_ok-r.ensures.sound c.in_ok-r.r c.in_ok-r.ensures.live (made c.args.store.now c.args.operation) (λ a. c.in_ok-r.ensures.table a ∙ c.requires.made a) c.in_ok-r.ensures.fresh
