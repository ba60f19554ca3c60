use Rattle.std.proofs.Common.{◌≡◌, ◌++◌, drop}
use Rattle.std.specs.List.{flat_map}
use Rattle.smv_strengthen.specs.Names.{name_of}
use Rattle.smv_strengthen.proofs.names.names_of.Given as goal

abbrev pub invariant-loop-token : goal.invariant-loop-token
invariant-loop-token l = l.names ++ flat_map name_of (drop l.token-index l.tokens) ≡ flat_map name_of l.tokens
