use Rattle.std.proofs.Common.{◌≡◌, ◌++◌, map, drop}
use Rattle.smv_flatten_families.specs.Held.{scope_here}
use Rattle.smv_flatten.specs.Leaves.{binders_of}
use Rattle.smv_flatten.specs.Items.{act_item}
use Rattle.smv_flatten.proofs.acts.statements.Given as goal

abbrev pub invariant-loop-act : goal.invariant-loop-act
invariant-loop-act l = l.out.items ++ map (act_item (scope_here l.here) l.layer (binders_of l.around)) (drop l.act-index l.body) ≡ l.initial.out.items ++ map (act_item (scope_here l.here) l.layer (binders_of l.around)) l.body
