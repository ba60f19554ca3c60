use Rattle.smv_circuits.specs.Circuits.{value}
use Rattle.smv_circuits.specs.Frames.{Becomes}
use Rattle.smv_circuits.proofs.frames.becomes.Given as goal

abbrev pub invariant-loop-bit : goal.invariant-loop-bit
invariant-loop-bit l = Becomes l.initial.circuit.first l.initial.circuit.gates.items l.circuit.first l.circuit.gates.items (λ a. value l.initial.circuit.first l.initial.circuit.gates.items a l.test) l.bit l.next.items
