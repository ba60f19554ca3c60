use Rattle.std.proofs.Common.{ap, ◌∙◌}
use Rattle.law_designs.specs.Statements.{flat_expr}
use Rattle.smv_flatten_families.specs.Held.{scope_here}
use Rattle.smv_flatten.specs.Leaves.{binders_of}
use Rattle.smv_flatten.proofs.ConnectionLaws.{input-made}
use Rattle.smv_flatten.proofs.connections.input.Goals as goal

pub returns : goal.returns
returns c =
    let value = c.in_ok-value.ensures ∙ ap (λ v. flat_expr (scope_here c.args.here) v c.args.e.now) c.requires.within in
    rw (← (input-made c.args.here (binders_of c.args.around.now) c.args.name.now c.args.formal.now c.args.e.now c.in_ok-family.family c.new.result c.in_ok-value.value c.first_token.result
    c.in_ok-family.ensures c.new.ensures value c.first_token.ensures)) c.act_inside.ensures
