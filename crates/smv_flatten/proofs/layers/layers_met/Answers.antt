use Rattle.std.proofs.Common.{arith}
use Rattle.std.proofs.lemmas.Grind.{common_steps}
use Rattle.smv_flatten.proofs.LayerLaws.{layers-met}
use Rattle.smv_flatten.proofs.layers.layers_met.Goals as goal

pub returns-clause-layers : goal.returns-clause-layers
returns-clause-layers c = λ text. let e = layers-met text c.args.all.now in grind (arith, common_steps, e)
