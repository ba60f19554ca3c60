use Rattle.std.proofs.Common.{◌≡◌, ◌∙◌, ◌++◌, ap, subst, sym, option_copied, Option, OnOk}
use Rattle.law_lists.proofs.Lists.{nothing_behind}
use Rattle.smv_core.specs.declared.flat.Family.{Family}
use Rattle.smv_look_lint.specs.Strays.{def_strays}
use Rattle.smv_look_lint.proofs.strays.push_def.Goals as goal

pub returns-in-None : goal.returns-in-None
returns-in-None c = nothing_behind c.args.out.now.items ∙ ap (λ (f : Option Family). c.args.out.now.items ++ def_strays f c.args.def.now) (sym (ap option_copied c.in-None.is) ∙ c.family_at.ensures)

pub returns-in-Some : goal.returns-in-Some
returns-in-Some c =
    subst (λ (f : Option Family). OnOk c.push_all.result (c.push_all.new.out.items ≡ c.args.out.now.items ++ def_strays f c.args.def.now)) (sym (ap option_copied c.in-Some.is) ∙ c.family_at.ensures) c.push_all.ensures
