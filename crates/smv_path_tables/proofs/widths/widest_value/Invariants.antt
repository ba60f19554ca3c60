use Rattle.std.proofs.Common.{◌≡◌, drop, max}
use Rattle.smv_path_tables.specs.Tables.{widest_value}
use Rattle.smv_path_tables.proofs.widths.widest_value.Given as goal

abbrev pub invariant-loop-state : goal.invariant-loop-state
invariant-loop-state l = max l.width (widest_value (drop l.state-index l.states)) ≡ widest_value l.states
