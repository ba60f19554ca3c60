use Rattle.std.proofs.Common.{◌≡◌, ◌++◌, drop, map}
use Rattle.law_obligations.specs.Outlines.{entries_of}
use Rattle.smv_use_times.specs.Tables.{outline}
use Rattle.smv_use_times.specs.Uses.{held, uses_from}
use Rattle.smv_use_times.proofs.uses.all_uses.Given as goal

abbrev pub invariant-loop-place : goal.invariant-loop-place
invariant-loop-place l = map held l.all.items ++ uses_from (outline l.tables) l.place (entries_of (drop l.place l.tables.units.now) (drop l.place l.leaves) (drop l.place l.choices)) ≡ uses_from (outline l.tables) 0 (entries_of l.tables.units.now l.leaves l.choices)
