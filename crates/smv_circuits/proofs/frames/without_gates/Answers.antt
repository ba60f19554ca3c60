use Rattle.std.proofs.Common.{arith}
use Rattle.smv_circuits.proofs.FrameLaws.{no_gates}
use Rattle.smv_circuits.proofs.frames.without_gates.Goals as goal

pub returns-clause-circuit : goal.returns-clause-circuit
returns-clause-circuit c =
    let first = c.new.ensures.first in
    let few = c.requires in
    no_gates c.new.result.first c.new.result.gates.items c.new.ensures.gates (omega (arith, first)) (omega (arith, first, few))
