-- The line is that of the family which has the number.
use Rattle.std.proofs.Common.{◌≡◌, ◌++◌, OnOk, Option, subst}
use Rattle.smv_core.specs.declared.flat.Family.{Family}
use Rattle.smv_look_lint.specs.Lines.{family_line}
use Rattle.smv_look_lint.proofs.lines.push_warning.Goals as goal

pub returns : goal.returns
returns c =
    subst (λ (f : Option Family). OnOk c.push_family.result (c.push_family.new.out.items ≡ c.args.out.now.items ++ family_line c.args.text.now c.args.design.now f c.args.warning)) c.family_of-family.ensures c.push_family.ensures
