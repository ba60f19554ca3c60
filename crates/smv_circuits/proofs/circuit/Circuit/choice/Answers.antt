use Rattle.std.proofs.Common.{◌∙◌, sym}
use Rattle.smv_circuits.proofs.Adds.{same_adds}
use Rattle.smv_circuits.proofs.circuit.Circuit.choice.Goals as goal

pub returns-then-number : goal.returns-then-number
returns-then-number c = same_adds c.args.self.now.first c.args.self.now.gates.items c.args.test c.args.high c.args.low c.requires.circuit c.requires.high (sym c.number.ensures ∙ (c.if-number.true ∙ c.number-2.ensures))
