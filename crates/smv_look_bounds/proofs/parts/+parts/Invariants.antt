use Rattle.std.proofs.Common.{◌≡◌, ◌++◌, drop, map}
use Rattle.std.specs.List.{flat_map}
use Rattle.smv_look_bounds.specs.Doubts.{part_doubts}
use Rattle.smv_look_bounds.specs.Held.{given_of}
use Rattle.smv_look_bounds.proofs.parts.+parts.Given as goal

abbrev pub invariant-push_parts-loop-part : goal.invariant-push_parts-loop-part
invariant-push_parts-loop-part l =
    l.out.items ++ flat_map (part_doubts l.families l.over l.vars (map given_of l.givens)) (drop l.part-index l.parts)
    ≡ l.initial.out.items ++ flat_map (part_doubts l.families l.over l.vars (map given_of l.givens)) l.parts
