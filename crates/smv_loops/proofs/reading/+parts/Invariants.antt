use Rattle.std.proofs.Common.{◌≡◌, ◌++◌, map, drop}
use Rattle.std.specs.List.{flat_map}
use Rattle.smv_loops.specs.Held.{assigned_in, reference_of, reading_of}
use Rattle.smv_loops.proofs.reading.+parts.Given as goal

abbrev pub invariant-all_readings-loop-x : goal.invariant-all_readings-loop-x
invariant-all_readings-loop-x l =
    map reading_of l.out.items ++ flat_map (assigned_in l.family (map reference_of l.around)) (drop l.x-index l.parts) ≡ map reading_of l.initial.out.items ++ flat_map (assigned_in l.family (map reference_of l.around)) l.parts
