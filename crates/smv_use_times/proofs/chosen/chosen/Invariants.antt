use Rattle.std.proofs.Common.{drop}
use Rattle.smv_use_times.specs.Tables.{AreChosen, outline}
use Rattle.smv_use_times.proofs.chosen.chosen.Given as goal

abbrev pub invariant-loop-place : goal.invariant-loop-place
invariant-loop-place l = AreChosen (outline l.tables) (drop l.place l.picks) l.nodes l.next.items
