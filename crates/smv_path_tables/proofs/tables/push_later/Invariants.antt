use Rattle.std.proofs.Common.{◌≡◌, ◌++◌, drop, map}
use Rattle.std.specs.List.{flat_map}
use Rattle.smv_path_tables.specs.Tables.{cell, shown_after, value_of}
use Rattle.smv_path_tables.proofs.tables.push_later.Given as goal

abbrev pub invariant-loop-state : goal.invariant-loop-state
invariant-loop-state l =
    l.out.items ++ flat_map (cell l.width) (shown_after l.old (map (value_of l.place) (drop l.state-index l.states))) ≡ l.initial.out.items ++ flat_map (cell l.width) (shown_after l.first (map (value_of l.place) l.states))
