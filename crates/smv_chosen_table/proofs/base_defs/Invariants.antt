use Rattle.std.proofs.Common.{◌≡◌, length}
use Rattle.smv_chosen_table.specs.Tables.{AreBaseDefs}
use Rattle.smv_chosen_table.proofs.base_defs.Given as goal

abbrev pub invariant-loop-family : goal.invariant-loop-family
invariant-loop-family l = (length l.table.items ≡ l.family) × AreBaseDefs l.design l.table.items
