use Rattle.std.proofs.Common.{◌≡◌, ◌++◌, None, map, drop}
use Rattle.std.specs.Prelude.{zip}
use Rattle.std.specs.List.{flat_map}
use Rattle.smv_flatten_families.specs.Held.{scope_here}
use Rattle.smv_flatten.specs.Leaves.{binders_of}
use Rattle.smv_flatten.specs.Items.{act_item}
use Rattle.smv_flatten.specs.Connections.{connected}
use Rattle.smv_flatten.proofs.connections.connections.Given as goal

abbrev pub invariant-loop-i : goal.invariant-loop-i
invariant-loop-i l =
    l.out.items ++ map (act_item (scope_here l.here) None (binders_of l.around)) (flat_map (connected l.name) (drop l.i (zip (zip l.formals l.roles) l.args)))
    ≡ l.initial.out.items ++ map (act_item (scope_here l.here) None (binders_of l.around)) (flat_map (connected l.name) (zip (zip l.formals l.roles) l.args))
