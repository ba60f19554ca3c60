use Rattle.std.proofs.Common.{◌≡◌, drop, max}
use Rattle.smv_path_tables.specs.Tables.{widest}
use Rattle.smv_path_tables.proofs.widths.widest.Given as goal

abbrev pub invariant-loop-text : goal.invariant-loop-text
invariant-loop-text l = max l.width (widest (drop l.text-index l.texts)) ≡ widest l.texts
