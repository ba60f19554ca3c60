use Rattle.std.proofs.Common.{◌≡◌, ◌++◌, drop}
use Rattle.smv_flatten_families.specs.Paths.{path_of}
use Rattle.smv_flatten_families.proofs.lookups.key_of_names.Given as goal

abbrev pub invariant-loop-name : goal.invariant-loop-name
invariant-loop-name l = path_of l.key.items ++ path_of (drop l.name-index l.more) ≡ path_of l.names ++ path_of l.more
