use Rattle.std.proofs.Common.{◌≡◌, map, drop}
use Rattle.std.specs.List.{flat_map}
use Rattle.graphs.specs.Graph.{lists}
use Rattle.smv_mentions.specs.Said.{said}
use Rattle.smv_size.specs.Recursion.{least_from, recursive_at}
use Rattle.smv_size.proofs.recursion.first_in.Given as goal

abbrev pub invariant-loop-mention : goal.invariant-loop-mention
invariant-loop-mention l =
    least_from l.least (flat_map (recursive_at l.names (lists l.graph) l.target) (map said (drop l.mention-index l.mention-items)))
    ≡ least_from l.initial.least (flat_map (recursive_at l.names (lists l.graph) l.target) (map said l.mention-items))
