use Rattle.std.proofs.Common.{◌-◌}
use Rattle.smv_cone.specs.Searching.{HasFound}
use Rattle.smv_cone.proofs.search.go_on_from_each.Given as goal

abbrev pub invariant-loop-turn : goal.invariant-loop-turn
invariant-loop-turn l = HasFound l.part l.found l.turn

abbrev pub decreases-loop-turn : goal.decreases-loop-turn
decreases-loop-turn l = 1025 - l.turn
