use Rattle.std.proofs.Common.{◌≡◌, ◌+◌, ◌≤◌, drop}
use Rattle.smv_readings.specs.StateBits.{bits_of_elements, bits_in}
use Rattle.smv_readings.proofs.widths.total.Given as goal

abbrev pub invariant-loop-x : goal.invariant-loop-x
invariant-loop-x l = (l.total + bits_of_elements l.problem.families l.problem.lists l.problem.types (drop l.x-index l.problem.elements) ≡ bits_in l.problem) × (bits_in l.problem ≤ 1024)
