use Rattle.smv_trace.proofs.Paths.{AreRead}
use Rattle.smv_trace.proofs.read_states.Given as goal

abbrev pub invariant-loop-state : goal.invariant-loop-state
invariant-loop-state l = AreRead l.problem l.places l.wires l.states l.state-index l.path
