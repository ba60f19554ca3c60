use Rattle.std.proofs.Common.{◌≡◌, ◌++◌, map, drop}
use Rattle.smv_unit_tables.specs.Reads.{def_reads, lists}
use Rattle.smv_unit_tables.proofs.reads.reads_of_defs.Given as goal

abbrev pub invariant-loop-def : goal.invariant-loop-def
invariant-loop-def l = lists l.table.items ++ map (def_reads l.families) (drop l.def-index l.defs) ≡ map (def_reads l.families) l.defs
