use Rattle.std.proofs.Common.{◌≡◌, ◌++◌, ◌≤◌, map, drop, length}
use Rattle.smv_flatten_families.specs.Held.{scope_here}
use Rattle.smv_flatten_statements.specs.Around.{around_of}
use Rattle.smv_flatten_statements.specs.Flattened.{statement_of, expression_of, arms_of, turns_of}
use Rattle.smv_flatten_statements.proofs.statements.+statements.Given as goal

abbrev pub invariant-block-loop-part : goal.invariant-block-loop-part
invariant-block-loop-part l = l.flat ++ map (statement_of (scope_here l.here) (around_of l.vars)) (drop l.part-index l.parts) ≡ map (statement_of (scope_here l.here) (around_of l.vars)) l.parts

abbrev pub invariant-written_out-loop-n : goal.invariant-written_out-loop-n
invariant-written_out-loop-n l = l.flat ++ turns_of (scope_here l.here) (around_of l.vars) l.var l.body (drop l.n-index l.numbers) ≡ turns_of (scope_here l.here) (around_of l.vars) l.var l.body l.numbers

abbrev pub invariant-all_arms-loop-left : goal.invariant-all_arms-loop-left
invariant-all_arms-loop-left l = record {
  within : l.left ≤ length l.arms;
  flat : l.flat ≡ arms_of (scope_here l.here) (around_of l.vars) (expression_of (scope_here l.here) (around_of l.vars) l.on) l.initial.flat (drop l.left l.arms);
}

abbrev pub decreases-all_arms-loop-left : goal.decreases-all_arms-loop-left
decreases-all_arms-loop-left l = l.left
