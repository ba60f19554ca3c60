use Rattle.std.proofs.lemmas.Result.{IfOk-weaker}
use Rattle.smv_look_faults.proofs.ToldLaws.{told_beside}
use Rattle.smv_look_faults.proofs.told.beside.Goals as goal

pub returns-in_ok-other-in-Ok : goal.returns-in_ok-other-in-Ok
returns-in_ok-other-in-Ok c =
    IfOk-weaker c.lines_with.result _ _
    (λ lines told. told_beside c.args.text.now c.args.fault.number c.args.fault.at lines.items c.in-Ok.tree c.in_ok-other-in-Ok.other c.requires.plain c.requires.other c.in-Ok.ensures.tree c.in_ok-other-in-Ok.ensures told) c.lines_with.ensures
