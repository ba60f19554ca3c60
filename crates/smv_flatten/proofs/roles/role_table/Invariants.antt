use Rattle.std.proofs.Common.{◌≡◌, ◌++◌, map, drop}
use Rattle.std.specs.List.{flat_map}
use Rattle.smv_flatten.specs.Roles.{roles_beside, module_in}
use Rattle.smv_flatten.proofs.roles.role_table.Given as goal

abbrev pub invariant-loop-top : goal.invariant-loop-top
invariant-loop-top l = l.table ++ flat_map (λ top. map roles_beside (module_in top)) (drop l.top-index l.tops) ≡ flat_map (λ top. map roles_beside (module_in top)) l.tops
