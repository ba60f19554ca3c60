use Rattle.std.proofs.Common.{◌∙◌, ◌+◌, ◌<◌, length, refl, arith}
use Rattle.smv_circuits.proofs.Adds.{added_adds}
use Rattle.smv_circuits.proofs.circuit.Circuit.added.Goals as goal

pub returns : goal.returns
returns c =
    let test = c.if-variable-ge-MOST.false in
    let long = c.len-place.ensures in
    let few : c.args.self.now.first + length c.args.self.now.gates.items < 1073741824 = omega (arith, test, long) in
    added_adds c.args.self.now.first c.args.self.now.first c.args.self.now.gates.items c.push.new.self.items c.positive.result c.args.gate c.requires.circuit c.requires.left c.requires.right few refl c.in_ok-push.ensures.items (c.positive.ensures.variable ∙ omega (arith, long)) c.positive.ensures.inverted
