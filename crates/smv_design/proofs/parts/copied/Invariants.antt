use Rattle.std.proofs.Common.{◌≡◌, ◌++◌, drop}
use Rattle.smv_design.proofs.parts.copied.Given as goal

abbrev pub invariant-loop-index : goal.invariant-loop-index
invariant-loop-index l = l.copies.items ++ drop l.index-index l.indexes ≡ l.indexes
