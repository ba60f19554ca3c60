use Rattle.std.proofs.Common.{◌≡◌, ◌++◌, drop}
use Rattle.smv_splits.proofs.names.index_of.Given as goal

abbrev pub invariant-loop-name : goal.invariant-loop-name
invariant-loop-name l = l.index ++ drop l.name-index l.names ≡ l.names
