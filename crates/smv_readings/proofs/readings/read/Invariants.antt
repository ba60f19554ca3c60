use Rattle.std.proofs.Common.{◌≡◌, ◌+◌, ◌++◌, drop, length}
use Rattle.smv_readings.specs.StateBits.{bits_of_elements}
use Rattle.smv_readings.specs.States.{bits_in, values_from}
use Rattle.smv_readings.proofs.readings.read.Given as goal

abbrev pub invariant-loop-x : goal.invariant-loop-x
invariant-loop-x l = record {
  bits : l.bit + bits_of_elements l.problem.families l.problem.lists l.problem.types (drop l.x-index l.problem.elements) ≡ length l.bits;
  values : l.values ++ values_from l.problem.families l.problem.lists l.problem.types (bits_in l.bits) l.bit (drop l.x-index l.problem.elements) ≡ values_from l.problem.families l.problem.lists l.problem.types (bits_in l.bits) 0 l.problem.elements;
}
