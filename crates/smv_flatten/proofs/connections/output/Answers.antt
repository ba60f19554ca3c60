use Rattle.std.proofs.Common.{◌++◌, ap, ◌∙◌}
use Rattle.smv_core.specs.Outcome.{fields_of}
use Rattle.law_designs.specs.Numbers.{family_number}
use Rattle.smv_flatten_families.specs.Held.{instance_of, scope_here}
use Rattle.smv_flatten_statements.specs.Flattened.{path_indexes}
use Rattle.smv_flatten.specs.Leaves.{binders_of}
use Rattle.smv_flatten.proofs.ConnectionLaws.{output-made}
use Rattle.smv_flatten.proofs.connections.output.Goals as goal

pub returns : goal.returns
returns c =
    let here = c.args.here in
    let path = c.args.path.now in
    let parts = c.as_slice-parts.ensures in
    let family = c.in_ok-family.ensures ∙ ap (λ l. family_number (scope_here here) (instance_of here ++ fields_of l)) parts in
    let left = c.in_ok-left.ensures ∙ ap (λ v. path_indexes (scope_here here) v c.as_slice-parts.result.now) c.requires.within ∙ ap (path_indexes (scope_here here) _) parts in
    rw (← (output-made here (binders_of c.args.around.now) c.args.name.now c.args.formal.now path c.in_ok-family.family c.in_ok-left.left c.in_ok-value.value family left c.in_ok-value.ensures)) c.act_inside.ensures
