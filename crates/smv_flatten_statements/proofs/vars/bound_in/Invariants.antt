use Rattle.std.proofs.Common.{◌≡◌, ◌+◌, ◌≤◌, drop}
use Rattle.law_designs.specs.Numbers.{bound_in}
use Rattle.smv_flatten_statements.specs.Around.{around_of}
use Rattle.smv_flatten_statements.proofs.vars.bound_in.Given as goal

abbrev pub invariant-loop-var : goal.invariant-loop-var
invariant-loop-var l = record {
  counted : l.count + bound_in (around_of (drop l.var-index l.vars)) ≡ bound_in (around_of l.vars);
  within : l.count ≤ l.var-index;
}
