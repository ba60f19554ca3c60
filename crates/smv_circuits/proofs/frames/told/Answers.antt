use Rattle.std.proofs.Common.{◌∙◌}
use Rattle.smv_circuits.proofs.Adds.{in_then, keeps_then}
use Rattle.smv_circuits.proofs.FrameLaws.{tells}
use Rattle.smv_circuits.proofs.frames.told.Goals as goal

pub all_of-requires-2-clause-first : goal.all_of-requires-2-clause-first
all_of-requires-2-clause-first c = c.in_ok-met.ensures.adds.keeps.stays ∙ c.requires.first

pub all_of-requires-2-clause-circuit : goal.all_of-requires-2-clause-circuit
all_of-requires-2-clause-circuit c = c.in_ok-met.ensures.adds.circuit

pub literal_of-requires-clause-first : goal.literal_of-requires-clause-first
literal_of-requires-clause-first c = c.in_ok-kept.ensures.adds.keeps.stays ∙ (c.in_ok-met.ensures.adds.keeps.stays ∙ c.requires.first)

pub literal_of-requires-clause-circuit : goal.literal_of-requires-clause-circuit
literal_of-requires-clause-circuit c = c.in_ok-kept.ensures.adds.circuit

pub and-requires-clause-circuit : goal.and-requires-clause-circuit
and-requires-clause-circuit c = c.in_ok-violated.ensures.adds.circuit

pub and-requires-clause-one : goal.and-requires-clause-one
and-requires-clause-one c =
    in_then c.all_of.new.circuit.first c.literal_of.new.circuit.first c.all_of.new.circuit.gates.items c.literal_of.new.circuit.gates.items c.in_ok-met.met
    (keeps_then c.all_of.new.circuit.first c.all_of-2.new.circuit.first c.literal_of.new.circuit.first c.all_of.new.circuit.gates.items c.all_of-2.new.circuit.gates.items c.literal_of.new.circuit.gates.items c.in_ok-kept.ensures.adds.keeps c.in_ok-violated.ensures.adds.keeps)
    c.in_ok-met.ensures.adds.within

pub and-requires-clause-other : goal.and-requires-clause-other
and-requires-clause-other c = in_then c.all_of-2.new.circuit.first c.literal_of.new.circuit.first c.all_of-2.new.circuit.gates.items c.literal_of.new.circuit.gates.items c.in_ok-kept.kept c.in_ok-violated.ensures.adds.keeps c.in_ok-kept.ensures.adds.within

pub and-requires-2-clause-circuit : goal.and-requires-2-clause-circuit
and-requires-2-clause-circuit c = c.in_ok-goes.ensures.circuit

pub and-requires-2-clause-one : goal.and-requires-2-clause-one
and-requires-2-clause-one c =
    in_then c.all_of.new.circuit.first c.and.new.self.first c.all_of.new.circuit.gates.items c.and.new.self.gates.items c.in_ok-met.met
    (keeps_then c.all_of.new.circuit.first c.literal_of.new.circuit.first c.and.new.self.first c.all_of.new.circuit.gates.items c.literal_of.new.circuit.gates.items c.and.new.self.gates.items
    (keeps_then c.all_of.new.circuit.first c.all_of-2.new.circuit.first c.literal_of.new.circuit.first c.all_of.new.circuit.gates.items c.all_of-2.new.circuit.gates.items c.literal_of.new.circuit.gates.items c.in_ok-kept.ensures.adds.keeps c.in_ok-violated.ensures.adds.keeps)
    c.in_ok-goes.ensures.keeps)
    c.in_ok-met.ensures.adds.within

pub and-requires-2-clause-other : goal.and-requires-2-clause-other
and-requires-2-clause-other c = in_then c.literal_of.new.circuit.first c.and.new.self.first c.literal_of.new.circuit.gates.items c.and.new.self.gates.items c.in_ok-violated.violated c.in_ok-goes.ensures.keeps c.in_ok-violated.ensures.adds.within

pub returns : goal.returns
returns c =
    tells c.args.circuit.now.first c.all_of.new.circuit.first c.all_of-2.new.circuit.first c.literal_of.new.circuit.first c.and.new.self.first c.and-2.new.self.first
    c.args.circuit.now.gates.items c.all_of.new.circuit.gates.items c.all_of-2.new.circuit.gates.items c.literal_of.new.circuit.gates.items c.and.new.self.gates.items c.and-2.new.self.gates.items
    c.in_ok-met.met c.in_ok-kept.kept c.in_ok-violated.violated c.in_ok-goes.goes c.in_ok-breaks.breaks _ _ _
    c.in_ok-met.ensures.adds c.in_ok-kept.ensures.adds c.in_ok-violated.ensures.adds c.in_ok-goes.ensures c.in_ok-breaks.ensures
