use Rattle.smv_circuits.proofs.Values.{gate_straight, gate_turned}
use Rattle.smv_circuits.proofs.circuit.gate_of.Goals as goal

pub returns-then-one-other : goal.returns-then-one-other
returns-then-one-other c = gate_turned c.args.one c.args.other c.if-one-other.true

pub returns-else-one-other : goal.returns-else-one-other
returns-else-one-other c = gate_straight c.args.one c.args.other c.requires c.if-one-other.false
