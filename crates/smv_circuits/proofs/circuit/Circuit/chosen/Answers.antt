use Rattle.std.proofs.Common.{arith}
use Rattle.smv_circuits.proofs.Adds.{choice_adds, in_then}
use Rattle.smv_circuits.proofs.circuit.Circuit.chosen.Goals as goal

pub and-requires-2-clause-circuit : goal.and-requires-2-clause-circuit
and-requires-2-clause-circuit c = c.in_ok-one.ensures.circuit

pub and-requires-2-clause-one : goal.and-requires-2-clause-one
and-requires-2-clause-one c =
    let within = in_then c.args.self.now.first c.and.new.self.first c.args.self.now.gates.items c.and.new.self.gates.items c.args.test c.in_ok-one.ensures.keeps c.requires.test in
    omega (arith, within, c.negated.ensures.variable)

pub and-requires-2-clause-other : goal.and-requires-2-clause-other
and-requires-2-clause-other c = in_then c.args.self.now.first c.and.new.self.first c.args.self.now.gates.items c.and.new.self.gates.items c.args.low c.in_ok-one.ensures.keeps c.requires.low

pub and-requires-3-clause-circuit : goal.and-requires-3-clause-circuit
and-requires-3-clause-circuit c = c.in_ok-other.ensures.circuit

pub and-requires-3-clause-one : goal.and-requires-3-clause-one
and-requires-3-clause-one c =
    let within = in_then c.and.new.self.first c.and-2.new.self.first c.and.new.self.gates.items c.and-2.new.self.gates.items c.in_ok-one.one c.in_ok-other.ensures.keeps c.in_ok-one.ensures.within in
    omega (arith, within, c.negated-2.ensures.variable)

pub and-requires-3-clause-other : goal.and-requires-3-clause-other
and-requires-3-clause-other c = let within = c.in_ok-other.ensures.within in omega (arith, within, c.negated-3.ensures.variable)

pub returns : goal.returns
returns c =
    choice_adds c.args.self.now.first c.and.new.self.first c.and-2.new.self.first c.and-3.new.self.first c.args.self.now.gates.items c.and.new.self.gates.items c.and-2.new.self.gates.items c.and-3.new.self.gates.items c.args.test c.args.high c.args.low
    c.in_ok-one.one c.in_ok-other.other c.in_ok-neither.neither c.negated.result c.negated-2.result c.negated-3.result c.negated-4.result c.requires.test c.requires.high c.requires.low c.negated.ensures.variable c.negated.ensures.inverted
    c.negated-2.ensures.variable c.negated-2.ensures.inverted c.negated-3.ensures.variable c.negated-3.ensures.inverted c.negated-4.ensures.variable c.negated-4.ensures.inverted c.in_ok-one.ensures c.in_ok-other.ensures c.in_ok-neither.ensures
