use Rattle.std.specs.Prelude.{◌≡◌, ◌+◌, drop}
use Rattle.smv_readings.specs.StateBits.{bits_of_elements}
use Rattle.smv_look_lines.proofs.cones.total.Given as goal

abbrev pub invariant-loop-x : goal.invariant-loop-x
invariant-loop-x l =
    l.total + bits_of_elements l.look.design.now.families l.look.lists.now l.look.types.now (drop l.x-index l.elements) ≡ bits_of_elements l.look.design.now.families l.look.lists.now l.look.types.now l.elements
