use Rattle.std.proofs.Common.{◌+◌, ◌*◌, ap, ◌∙◌}
use Rattle.smv_size.specs.Limits.{capped}
use Rattle.smv_size.proofs.CountLaws.{sum_is, capped-product}
use Rattle.smv_size.proofs.modules.connected.Goals as goal

pub returns : goal.returns
returns c formals inner e f =
    let sum = sum_is c.plus.result c.args.inside.formals c.args.inside.statements formals inner c.plus.ensures e f in
    c.times.ensures ∙ ap (λ k. capped (k * c.plus.result)) c.number_of.ensures ∙ ap (λ k. capped (capped c.args.instances * k)) sum ∙ capped-product c.args.instances (formals + inner)
