use Rattle.std.proofs.Common.{drop}
use Rattle.smv_chosen_table.specs.Tables.{IsTable}
use Rattle.smv_chosen_table.proofs.choose.Given as goal

abbrev pub invariant-loop-place : goal.invariant-loop-place
invariant-loop-place l = IsTable (record { design = l.design; units = l.units }) (drop l.place l.picks) l.table.items
