use Rattle.std.proofs.Common.{arith}
use Rattle.std.proofs.lemmas.Grind.{common_steps}
use Rattle.smv_flatten.proofs.RoleLaws.{beside-in}
use Rattle.smv_flatten.proofs.roles.role_table.Goals as goal

pub returns : goal.returns
returns c = let e = beside-in c.args.text.now.tops in grind (arith, common_steps, e)
