use Rattle.std.proofs.Common.{◌≡◌, ◌++◌, map, drop}
use Rattle.smv_reads.specs.Views.{spot_in}
use Rattle.smv_obligations.proofs.demands.spots_of.Given as goal

abbrev pub invariant-loop-class : goal.invariant-loop-class
invariant-loop-class l = l.spots.items ++ map (spot_in l.over) (drop l.class-index l.class-items) ≡ map (spot_in l.over) l.class-items
