use Rattle.std.proofs.Common.{◌≡◌}
use Rattle.smv_design.specs.declared.owners.Owner.{Owner}
use Rattle.smv_design.specs.Groups.{filled, held, parts_for}
use Rattle.smv_design.proofs.groups.add_all.Given as goal

abbrev pub invariant-loop-part : goal.invariant-loop-part
invariant-loop-part l = (owner : Owner) → filled (held l.groups owner) l.is_second (parts_for owner l.part-iterator.rest.items) ≡ filled (held l.initial.groups owner) l.is_second (parts_for owner l.fn.parts.items)
