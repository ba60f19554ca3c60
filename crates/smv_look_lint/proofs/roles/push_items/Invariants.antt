use Rattle.std.proofs.Common.{◌≡◌, ◌++◌, drop}
use Rattle.std.specs.List.{flat_map}
use Rattle.smv_look_lint.specs.Roles.{item_names}
use Rattle.smv_look_lint.proofs.roles.push_items.Given as goal

abbrev pub invariant-loop-item : goal.invariant-loop-item
invariant-loop-item l = l.out.items ++ flat_map (item_names l.wanted) (drop l.item-index l.items) ≡ l.initial.out.items ++ flat_map (item_names l.wanted) l.items
