use Rattle.std.proofs.lemmas.Result.{IfOk-weaker}
use Rattle.smv_look_faults.proofs.ToldLaws.{told_unshown}
use Rattle.smv_look_faults.proofs.told.unshown.Goals as goal

pub returns : goal.returns
returns c = IfOk-weaker c.unshown_lines.result _ _ (λ lines told. told_unshown c.args.text.now c.args.fault.number c.args.fault.at lines.items c.requires told) c.unshown_lines.ensures
