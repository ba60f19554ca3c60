use Rattle.std.proofs.Common.{◌≡◌, ◌++◌, drop}
use Rattle.std.specs.List.{flat_map}
use Rattle.smv_flatten.specs.Roles.{roles_declared}
use Rattle.smv_flatten.proofs.roles.all_declared.Given as goal

abbrev pub invariant-loop-item : goal.invariant-loop-item
invariant-loop-item l = l.declared ++ flat_map roles_declared (drop l.item-index l.items) ≡ flat_map roles_declared l.items
