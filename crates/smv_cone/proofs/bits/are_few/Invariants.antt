use Rattle.std.proofs.Common.{◌≡◌, ◌≤◌, ◌+◌, drop}
use Rattle.smv_readings.specs.StateBits.{bits_of_elements}
use Rattle.smv_cone.proofs.bits.are_few.Given as goal

abbrev pub invariant-loop-x : goal.invariant-loop-x
invariant-loop-x l = (l.left ≤ 1024) × (bits_of_elements l.families l.lists l.types l.elements + l.left ≡ 1024 + bits_of_elements l.families l.lists l.types (drop l.x-index l.elements))
