use Rattle.std.proofs.Common.{drop}
use Rattle.smv_chosen_table.specs.Tables.{AreBaseDefsBut}
use Rattle.smv_chosen_table.proofs.put_back.Given as goal

abbrev pub invariant-loop-place : goal.invariant-loop-place
invariant-loop-place l = AreBaseDefsBut l.design (drop l.place l.picks) l.table.items
