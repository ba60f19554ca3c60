use Rattle.std.proofs.Common.{◌≡◌, ◌++◌, drop}
use Rattle.law_splits.specs.Leaves.{leaves_from}
use Rattle.smv_splits.proofs.leaf_chains.leaves_in.Given as goal

abbrev pub invariant-loop-place : goal.invariant-loop-place
invariant-loop-place l = l.leaves.items ++ leaves_from l.design l.place (drop l.place l.units) ≡ leaves_from l.design 0 l.units
