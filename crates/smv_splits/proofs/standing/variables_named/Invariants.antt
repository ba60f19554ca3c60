use Rattle.std.proofs.Common.{◌≡◌, ◌++◌, map, drop}
use Rattle.std.specs.List.{flat_map}
use Rattle.smv_core.specs.declared.flat.Param.{Param}
use Rattle.law_splits.specs.Leaves.{old, with_name}
use Rattle.smv_splits.proofs.standing.variables_named.Given as goal

abbrev pub invariant-loop-word : goal.invariant-loop-word
invariant-loop-word l = l.vars.items ++ map (λ (p : Param). p.var) (flat_map (with_name l.split.bound) (drop l.word-index l.split.of.names)) ≡ map (λ (p : Param). p.var) (old l.split)
