use Rattle.std.proofs.Common.{◌≡◌, ◌++◌, map, drop}
use Rattle.smv_flatten_families.specs.Held.{scope_here}
use Rattle.smv_flatten_statements.specs.Around.{around_of}
use Rattle.smv_flatten_statements.specs.Flattened.{expressions_of, path_indexes, signed_of, member_of}
use Rattle.smv_flatten_statements.proofs.expressions.+expressions.Given as goal

abbrev pub invariant-indexes-loop-part : goal.invariant-indexes-loop-part
invariant-indexes-loop-part l = l.flat ++ path_indexes (scope_here l.here) (around_of l.vars) (drop l.part-index l.parts) ≡ path_indexes (scope_here l.here) (around_of l.vars) l.parts

abbrev pub invariant-expressions-loop-e : goal.invariant-expressions-loop-e
invariant-expressions-loop-e l = l.flat ++ expressions_of (scope_here l.here) (around_of l.vars) (drop l.e-index l.parts) ≡ expressions_of (scope_here l.here) (around_of l.vars) l.parts

abbrev pub invariant-all_signed-loop-x : goal.invariant-all_signed-loop-x
invariant-all_signed-loop-x l = l.flat ++ map (signed_of (scope_here l.here) (around_of l.vars)) (drop l.x-index l.more) ≡ map (signed_of (scope_here l.here) (around_of l.vars)) l.more

abbrev pub invariant-all_members-loop-x : goal.invariant-all_members-loop-x
invariant-all_members-loop-x l = l.flat ++ map (member_of (scope_here l.here) (around_of l.vars)) (drop l.x-index l.members) ≡ map (member_of (scope_here l.here) (around_of l.vars)) l.members
