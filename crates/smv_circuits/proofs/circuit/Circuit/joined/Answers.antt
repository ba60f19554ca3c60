use Rattle.std.proofs.Common.{◌+◌, ◌&&◌, length}
use Rattle.smv_circuits.specs.Circuits.{value, values_of}
use Rattle.smv_circuits.proofs.Adds.{adds_alike, found_adds}
use Rattle.smv_circuits.proofs.circuit.Circuit.joined.Goals as goal

pub returns-in-Some : goal.returns-in-Some
returns-in-Some c =
    found_adds c.args.self.now.first c.args.self.now.gates.items c.args.one c.args.other c.positive.result c.gate_of-gate.result c.in-Some.place c.requires.circuit c.gate_of-gate.ensures c.in-Some.ensures.stands c.positive.ensures.variable c.positive.ensures.inverted

pub added-requires-clause-left : goal.added-requires-clause-left
added-requires-clause-left c = c.gate_of-gate.ensures.left (c.args.self.now.first + length c.args.self.now.gates.items) c.requires.one c.requires.other

pub added-requires-clause-right : goal.added-requires-clause-right
added-requires-clause-right c = c.gate_of-gate.ensures.right

pub returns-in_ok-made-in-None : goal.returns-in_ok-made-in-None
returns-in_ok-made-in-None c =
    adds_alike c.args.self.now.first c.added.new.self.first c.args.self.now.gates.items c.added.new.self.gates.items c.in_ok-made-in-None.made _ (λ a. value c.args.self.now.first c.args.self.now.gates.items a c.args.one && value c.args.self.now.first c.args.self.now.gates.items a c.args.other)
    c.in_ok-made-in-None.ensures (λ a. c.gate_of-gate.ensures.value (values_of c.args.self.now.first c.args.self.now.gates.items a))
