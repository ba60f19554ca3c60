use Rattle.std.proofs.Common.{take, All}
use Rattle.smv_single_assignment.specs.Shared.{HasSpot}
use Rattle.smv_single_assignment.proofs.shared.has_spots.Given as goal

abbrev pub invariant-loop-var : goal.invariant-loop-var
invariant-loop-var l = All (HasSpot l.kept l.class l.x.left.now) (take l.var-index l.x.around.items)
