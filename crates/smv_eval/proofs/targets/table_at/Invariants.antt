use Rattle.std.proofs.Common.{◌≡◌, ◌++◌, map, drop}
use Rattle.law_obligations.specs.Places.{World}
use Rattle.smv_problem_spots.specs.Worlds.{IsWorldOf}
use Rattle.smv_eval.specs.Sure.{at_value}
use Rattle.smv_eval.proofs.targets.table_at.Given as goal

abbrev pub invariant-loop-spot : goal.invariant-loop-spot
invariant-loop-spot l = (w : World) → IsWorldOf l.problem w → l.table ++ map (at_value w l.value) (drop l.spot-index l.spots) ≡ map (at_value w l.value) l.spots
