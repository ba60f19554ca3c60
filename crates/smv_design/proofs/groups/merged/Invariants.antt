use Rattle.std.proofs.Common.{◌≡◌, ◌++◌}
use Rattle.std.specs.Option.{option_copied}
use Rattle.smv_design.specs.declared.owners.Owner.{Owner}
use Rattle.smv_design.specs.Groups.{parts_for}
use Rattle.smv_design.proofs.GroupLaws.{drained}
use Rattle.smv_design.proofs.groups.merged.Given as goal

abbrev pub invariant-loop-owner : goal.invariant-loop-owner
invariant-loop-owner l = (owner : Owner) → parts_for owner l.parts.items ++ drained (option_copied l.cond) owner l.owner-iterator ≡ drained (option_copied l.cond) owner l.fn.groups.entries
