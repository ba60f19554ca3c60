use Rattle.std.proofs.Common.{◌≡◌, ◌+◌, drop}
use Rattle.smv_design.specs.declared.owners.Owner.{Owner}
use Rattle.smv_design.specs.Parts.{sizes}
use Rattle.smv_design.specs.Groups.{filled, held}
use Rattle.smv_design.specs.Told.{told_from}
use Rattle.smv_design.proofs.statements.+parts.Given as goal

abbrev pub invariant-add_each-loop-act : goal.invariant-add_each-loop-act
invariant-add_each-loop-act l =
    ((owner : Owner) → filled (held l.groups owner) l.is_second (told_from l.kind l.layer owner l.next (drop l.act-index l.acts)) ≡ filled (held l.initial.groups owner) l.is_second (told_from l.kind l.layer owner l.place l.acts))
    × (l.next + sizes (drop l.act-index l.acts) ≡ l.place + sizes l.acts)
