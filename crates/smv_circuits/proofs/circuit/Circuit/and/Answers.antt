use Rattle.smv_circuits.proofs.Adds.{simple_adds}
use Rattle.smv_circuits.proofs.circuit.Circuit.and.Goals as goal

pub returns-in-Some : goal.returns-in-Some
returns-in-Some c = simple_adds c.args.self.now.first c.args.self.now.gates.items c.args.one c.args.other c.in-Some.made c.requires.circuit c.requires.one c.requires.other c.in-Some.ensures.some
