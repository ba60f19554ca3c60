use Rattle.std.proofs.Common.{◌≡◌, ◌++◌, drop}
use Rattle.smv_references.specs.Dots.{dotted_from}
use Rattle.smv_references.proofs.names.path_bytes.Given as goal

abbrev pub invariant-loop-index : goal.invariant-loop-index
invariant-loop-index l = l.bytes.items ++ dotted_from l.index (drop l.index l.of.path) ≡ dotted_from 0 l.of.path
