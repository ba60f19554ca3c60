use Rattle.std.proofs.Common.{◌≡◌, [], drop}
use Rattle.law_designs.specs.Flattening.{within}
use Rattle.smv_flatten_statements.specs.Around.{around_of}
use Rattle.smv_flatten.specs.Leaves.{binders_of}
use Rattle.smv_flatten.proofs.acts.variables.Given as goal

abbrev pub invariant-loop-binder : goal.invariant-loop-binder
invariant-loop-binder l = within (around_of l.vars.items) (binders_of (drop l.binder-index l.around)) ≡ within [] (binders_of l.around)
