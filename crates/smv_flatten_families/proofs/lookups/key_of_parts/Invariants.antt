use Rattle.std.proofs.Common.{◌≡◌, ◌++◌, drop}
use Rattle.smv_core.specs.Outcome.{fields_of}
use Rattle.smv_flatten_families.specs.Paths.{path_of}
use Rattle.smv_flatten_families.proofs.lookups.key_of_parts.Given as goal

abbrev pub invariant-loop-part : goal.invariant-loop-part
invariant-loop-part l = path_of l.key.items ++ fields_of (drop l.part-index l.parts) ≡ path_of l.names ++ fields_of l.parts
