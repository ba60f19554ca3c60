use Rattle.std.proofs.Common.{map}
use Rattle.smv_single_assignment.specs.Held.{standing_of}
use Rattle.smv_single_assignment.proofs.SharedLaws.{HaveSpots}
use Rattle.smv_single_assignment.proofs.shared.are_shared.Given as goal

abbrev pub invariant-loop-place : goal.invariant-loop-place
invariant-loop-place l = HaveSpots l.kept (map standing_of l.all) l.classes l.place
