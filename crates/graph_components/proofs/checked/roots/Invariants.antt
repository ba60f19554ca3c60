use Rattle.std.proofs.Common.{◌≡◌, length, vec_len}
use Rattle.graph_components.specs.Inner.{AreMet}
use Rattle.graph_components.proofs.checked.roots.Given as goal

abbrev pub invariant-loop-node : goal.invariant-loop-node
invariant-loop-node l = record { room : vec_len l.met ≡ length l.labels; are_met : AreMet l.labels l.met.items l.roots.items }
