use Rattle.std.proofs.Common.{◌≡◌, ◌++◌, drop, map}
use Rattle.smv_use_times.specs.Uses.{held}
use Rattle.smv_use_times.specs.Times.{timed_from}
use Rattle.smv_use_times.proofs.times.all_times.Given as goal

abbrev pub invariant-loop-place : goal.invariant-loop-place
invariant-loop-place l = l.times.items ++ timed_from l.labels.items l.place (map held (drop l.place l.all)) ≡ timed_from l.labels.items 0 (map held l.all)
