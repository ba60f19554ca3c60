use Rattle.std.proofs.Common.{◌≡◌, ◌++◌, drop}
use Rattle.std.specs.List.{flat_map}
use Rattle.smv_unit_tables.specs.Reads.{read_in, read_in_term, read_in_member}
use Rattle.smv_unit_tables.proofs.expressions.+expressions.Given as goal

abbrev pub invariant-add_all-loop-x : goal.invariant-add_all-loop-x
invariant-add_all-loop-x l = l.out.items ++ flat_map (read_in l.families) (drop l.x-index l.parts) ≡ l.initial.out.items ++ flat_map (read_in l.families) l.parts

abbrev pub invariant-add_terms-loop-x : goal.invariant-add_terms-loop-x
invariant-add_terms-loop-x l = l.out.items ++ flat_map (read_in_term l.families) (drop l.x-index l.more) ≡ l.initial.out.items ++ flat_map (read_in_term l.families) l.more

abbrev pub invariant-add_members-loop-x : goal.invariant-add_members-loop-x
invariant-add_members-loop-x l = l.out.items ++ flat_map (read_in_member l.families) (drop l.x-index l.members) ≡ l.initial.out.items ++ flat_map (read_in_member l.families) l.members
