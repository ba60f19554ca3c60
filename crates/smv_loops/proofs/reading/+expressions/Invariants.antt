use Rattle.std.proofs.Common.{◌≡◌, ◌++◌, map, drop}
use Rattle.std.specs.List.{flat_map}
use Rattle.smv_loops.specs.Held.{reference_of, read_in, read_in_term, read_in_member}
use Rattle.smv_loops.proofs.reading.+expressions.Given as goal

abbrev pub invariant-all_references-loop-x : goal.invariant-all_references-loop-x
invariant-all_references-loop-x l = map reference_of l.out.items ++ flat_map read_in (drop l.x-index l.parts) ≡ map reference_of l.initial.out.items ++ flat_map read_in l.parts

abbrev pub invariant-signed_references-loop-x : goal.invariant-signed_references-loop-x
invariant-signed_references-loop-x l = map reference_of l.out.items ++ flat_map read_in_term (drop l.x-index l.more) ≡ map reference_of l.initial.out.items ++ flat_map read_in_term l.more

abbrev pub invariant-member_references-loop-x : goal.invariant-member_references-loop-x
invariant-member_references-loop-x l = map reference_of l.out.items ++ flat_map read_in_member (drop l.x-index l.members) ≡ map reference_of l.initial.out.items ++ flat_map read_in_member l.members
