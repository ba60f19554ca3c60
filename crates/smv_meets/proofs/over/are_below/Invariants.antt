use Rattle.std.proofs.Common.{◌≡◌, drop, nat_lt}
use Rattle.std.specs.List.{list_all}
use Rattle.smv_proof.specs.declared.proof.Node.{Node}
use Rattle.smv_meets.proofs.over.are_below.Given as goal

abbrev pub invariant-loop-node : goal.invariant-loop-node
invariant-loop-node l = list_all (λ (x : Node). nat_lt x.var l.vars) (drop l.node-index l.set.nodes) ≡ list_all (λ (x : Node). nat_lt x.var l.vars) l.set.nodes
