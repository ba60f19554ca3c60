use Rattle.std.proofs.Common.{◌≡◌, ◌++◌, drop, map}
use Rattle.smv_use_times.specs.Times.{time_by}
use Rattle.smv_use_times.proofs.times.times_by.Given as goal

abbrev pub invariant-loop-x : goal.invariant-loop-x
invariant-loop-x l = l.times ++ map (time_by l.labels l.place) (drop l.x-index l.uses) ≡ map (time_by l.labels l.place) l.uses
