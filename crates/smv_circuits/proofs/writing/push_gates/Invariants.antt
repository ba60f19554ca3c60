use Rattle.std.proofs.Common.{◌≡◌, ◌+◌, ◌++◌, drop}
use Rattle.smv_circuits.specs.Files.{gates_bytes}
use Rattle.smv_circuits.proofs.writing.push_gates.Given as goal

abbrev pub invariant-loop-gate : goal.invariant-loop-gate
invariant-loop-gate l = record {
  own : l.own ≡ l.first + l.gate-index;
  out : l.out.items ++ gates_bytes l.own (drop l.gate-index l.gates) ≡ l.initial.out.items ++ gates_bytes l.first l.gates;
}
