use Rattle.std.proofs.Common.{◌≡◌, ◌++◌, drop, map}
use Rattle.smv_use_times.specs.Tables.{outline}
use Rattle.smv_use_times.specs.Uses.{pick_use, marked}
use Rattle.smv_use_times.proofs.uses.pick_uses.Given as goal

abbrev pub invariant-loop-pick : goal.invariant-loop-pick
invariant-loop-pick l = l.uses.items ++ map (pick_use (outline l.tables) (marked l.marks)) (drop l.pick-index l.picks) ≡ map (pick_use (outline l.tables) (marked l.marks)) l.picks
