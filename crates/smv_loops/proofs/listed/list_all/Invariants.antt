use Rattle.std.proofs.Common.{◌≡◌, map, take}
use Rattle.smv_loops.specs.Order.{cells_from, listed}
use Rattle.smv_loops.proofs.listed.list_all.Given as goal

abbrev pub invariant-loop-place : goal.invariant-loop-place
invariant-loop-place l = l.all.items ≡ map (listed l.families l.ranks) (cells_from 0 (take l.place l.families))
