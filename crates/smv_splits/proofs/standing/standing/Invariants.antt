use Rattle.std.proofs.Common.{◌≡◌, map}
use Rattle.smv_core.specs.Values.{numbers_from}
use Rattle.law_splits.specs.Leaves.{stands_for}
use Rattle.smv_splits.proofs.standing.standing.Given as goal

abbrev pub invariant-loop-var : goal.invariant-loop-var
invariant-loop-var l = l.places.items ≡ map (stands_for l.split) (numbers_from 0 l.var)
