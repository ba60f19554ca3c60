use Rattle.std.proofs.Common.{◌∙◌}
use Rattle.smv_circuits.specs.Circuits.{value}
use Rattle.smv_circuits.proofs.Adds.{in_then}
use Rattle.smv_circuits.proofs.FrameLaws.{input_in, input_is, none_become, one_becomes}
use Rattle.smv_circuits.proofs.frames.becomes.Goals as goal

pub loop-bit-init : goal.loop-bit-init
loop-bit-init c = none_become c.args.circuit.now.first c.args.circuit.now.gates.items (λ a. value c.args.circuit.now.first c.args.circuit.now.gates.items a c.args.test) c.new-next.result.items c.requires.circuit c.new-next.ensures.items

pub and-requires-clause-circuit : goal.and-requires-clause-circuit
and-requires-clause-circuit c = c.loop-bit.invariant.circuit

pub and-requires-clause-one : goal.and-requires-clause-one
and-requires-clause-one c = in_then c.args.circuit.now.first c.loop-bit.circuit.first c.args.circuit.now.gates.items c.loop-bit.circuit.gates.items c.args.test c.loop-bit.invariant.keeps c.requires.test

pub and-requires-clause-other : goal.and-requires-clause-other
and-requires-clause-other c = input_in c.args.bits c.loop-bit.bit c.loop-bit.circuit.first c.loop-bit.circuit.gates.items c.input.result c.loop-bit-test.true (c.loop-bit.invariant.keeps.stays ∙ c.requires.first) c.input.ensures.variable

pub loop-bit-preserved : goal.loop-bit-preserved
loop-bit-preserved c =
    one_becomes c.args.circuit.now.first c.loop-bit.circuit.first c.and.new.self.first c.args.circuit.now.gates.items c.loop-bit.circuit.gates.items c.and.new.self.gates.items c.args.test c.input.result c.in_ok-literal.literal c.loop-bit.bit c.loop-bit.next.items c.push.new.self.items
    c.requires.test c.loop-bit.invariant c.in_ok-literal.ensures
    (input_is c.args.bits c.loop-bit.bit c.loop-bit.circuit.first c.loop-bit.circuit.gates.items c.input.result c.loop-bit-test.true (c.loop-bit.invariant.keeps.stays ∙ c.requires.first) c.input.ensures.variable c.input.ensures.inverted)
    c.in_ok-push.ensures.items
