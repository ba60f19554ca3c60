use Rattle.std.proofs.Common.{◌≡◌, ◌∷◌, [], map, arith}
use Rattle.std.proofs.lemmas.Grind.{common_steps}
use Rattle.smv_flatten.specs.Roles.{roles_beside, module_in}
use Rattle.smv_flatten.proofs.roles.add_top.Goals as goal

pub returns-in_ok-roles-in-Module : goal.returns-in_ok-roles-in-Module
returns-in_ok-roles-in-Module c =
    let e : map roles_beside (module_in c.args.top.now) ≡ (c.in-Module.name.name, c.in_ok-roles-in-Module.roles) ∷ [] = grind (arith, common_steps) in
    rw e c.push.ensures.ok
