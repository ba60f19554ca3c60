use Rattle.std.proofs.Common.{◌≡◌, ap, ◌∙◌, arith}
use Rattle.std.specs.Prelude.{unwrap_or}
use Rattle.std.proofs.lemmas.Grind.{common_steps}
use Rattle.smv_core.specs.Types.{find_name}
use Rattle.smv_core.specs.FlatOrder.{role_of}
use Rattle.smv_core.specs.declared.tree.Role.TheVariants.{Plain}
use Rattle.smv_mentions.proofs.Notes.{noting}
use Rattle.smv_flatten.proofs.RoleLaws.{role-found}
use Rattle.smv_flatten.proofs.roles.roles_of.Goals as goal

pub loop-word-preserved : goal.loop-word-preserved
loop-word-preserved c =
    let name = c.word-item.result.name in
    let e : c.role_in.result ≡ role_of c.args.items.now name = c.role_in.ensures ∙ ap (λ d. unwrap_or (find_name d name) Plain) c.in_ok-declared.ensures ∙ role-found c.args.items.now name in
    grind (arith, common_steps, noting, e)
