use Rattle.std.proofs.Common.{◌≡◌, ◌++◌, drop}
use Rattle.std.specs.Prelude.{option_copied}
use Rattle.std.specs.List.{flat_map}
use Rattle.smv_strengthen.specs.Claims.{candidates}
use Rattle.smv_strengthen.proofs.claims.+claims.Given as goal

abbrev pub invariant-in_items-loop-x : goal.invariant-in_items-loop-x
invariant-in_items-loop-x l = l.out.items ++ flat_map (candidates l.name l.var (option_copied l.set)) (drop l.x-index l.items) ≡ l.initial.out.items ++ flat_map (candidates l.name l.var (option_copied l.set)) l.items
