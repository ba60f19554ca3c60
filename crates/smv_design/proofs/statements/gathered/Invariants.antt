use Rattle.std.proofs.Common.{◌≡◌, ◌++◌, drop}
use Rattle.smv_design.specs.declared.owners.Owner.{Owner}
use Rattle.smv_design.specs.Groups.{held}
use Rattle.smv_design.specs.Told.{told_by}
use Rattle.smv_design.proofs.statements.gathered.Given as goal

abbrev pub invariant-loop-act : goal.invariant-loop-act
invariant-loop-act l = (owner : Owner) → (held l.groups owner).first ++ told_by l.kind owner (drop l.act-index l.acts) ≡ told_by l.kind owner l.acts
