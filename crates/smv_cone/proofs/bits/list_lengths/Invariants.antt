use Rattle.std.proofs.Common.{◌≡◌, ◌++◌, map, length, drop}
use Rattle.smv_cone.proofs.bits.list_lengths.Given as goal

abbrev pub invariant-loop-names : goal.invariant-loop-names
invariant-loop-names l = l.lists.items ++ map length (drop l.names-index l.names-items) ≡ map length l.names-items
