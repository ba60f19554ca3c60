use Rattle.std.proofs.Common.{◌≡◌, ◌++◌, ◌||◌, drop}
use Rattle.std.specs.List.{flat_map, list_any}
use Rattle.smv_unit_tables.specs.Reads.{has_assignment, part_reads}
use Rattle.smv_unit_tables.proofs.parts.+parts.Given as goal

abbrev pub invariant-add_parts-loop-x : goal.invariant-add_parts-loop-x
invariant-add_parts-loop-x l = record {
  some : (l.some || list_any has_assignment (drop l.x-index l.parts)) ≡ list_any has_assignment l.parts;
  reads : l.out.items ++ flat_map (part_reads l.families) (drop l.x-index l.parts) ≡ l.initial.out.items ++ flat_map (part_reads l.families) l.parts;
}
