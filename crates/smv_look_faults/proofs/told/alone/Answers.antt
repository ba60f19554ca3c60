use Rattle.std.proofs.lemmas.Result.{IfOk-weaker}
use Rattle.smv_look_faults.proofs.ToldLaws.{told_alone}
use Rattle.smv_look_faults.proofs.told.alone.Goals as goal

pub returns : goal.returns
returns c = IfOk-weaker c.fault_lines.result _ _ (λ lines told. told_alone c.args.text.now c.args.fault.number c.args.fault.at lines.items c.requires.plain c.requires.other told) c.fault_lines.ensures
