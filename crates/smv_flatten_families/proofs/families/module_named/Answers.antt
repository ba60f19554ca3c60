use Rattle.std.specs.Prelude.{Some, None}
use Rattle.smv_flatten_families.proofs.ModuleLaws.{module-is}
use Rattle.smv_flatten_families.proofs.families.module_named.Goals as goal

pub returns-in-Some : goal.returns-in-Some
returns-in-Some c = module-is c.args.modules.now c.args.name.now (Some c.in-Some.body.now) c.in-Some.ensures

pub returns-in-None : goal.returns-in-None
returns-in-None c = module-is c.args.modules.now c.args.name.now None c.in-None.ensures
