use Rattle.std.proofs.Common.{◌≡◌, map, drop}
use Rattle.smv_first_fault.specs.Firsts.{earlier_of}
use Rattle.smv_layers.specs.Leaks.{first_among, part_fault}
use Rattle.smv_layers.proofs.layers.+parts.Given as goal

abbrev pub invariant-part_faults-loop-part : goal.invariant-part_faults-loop-part
invariant-part_faults-loop-part l = earlier_of l.found (first_among (map (part_fault l.families l.family l.around) (drop l.part-index l.parts))) ≡ first_among (map (part_fault l.families l.family l.around) l.parts)
