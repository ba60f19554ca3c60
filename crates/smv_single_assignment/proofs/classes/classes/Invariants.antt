use Rattle.std.proofs.Common.{length, map}
use Rattle.smv_single_assignment.specs.Held.{standing_of}
use Rattle.smv_single_assignment.specs.Links.{AreClassed}
use Rattle.smv_single_assignment.proofs.classes.classes.Given as goal

abbrev pub invariant-loop-index : goal.invariant-loop-index
invariant-loop-index l = AreClassed (map standing_of l.all) l.classes.items (length l.all)

abbrev pub invariant-loop : goal.invariant-loop
invariant-loop l = AreClassed (map standing_of l.all) l.classes.items (length l.all)
