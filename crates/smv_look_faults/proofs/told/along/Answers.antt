use Rattle.std.proofs.Common.{◌≡◌}
use Rattle.std.proofs.lemmas.Result.{IfOk-weaker}
use Rattle.smv_look_explain.specs.Others.{lines_along}
use Rattle.smv_look_faults.proofs.ToldLaws.{told_along}
use Rattle.smv_look_faults.proofs.told.along.Goals as goal

pub returns-in_ok-places-in-Ok : goal.returns-in_ok-places-in-Ok
returns-in_ok-places-in-Ok c =
    let text = c.args.text.now in
    let fault = c.args.fault in
    let places = c.in_ok-places-in-Ok.places.items in
    IfOk-weaker c.lines_along.result _ _
    (λ lines told.
    let t : lines.items ≡ lines_along text fault.number fault.at places = rw c.as_slice.ensures.value at told in
    told_along text fault.number fault.at lines.items c.in-Ok.tree c.in_ok-design-in-Ok.design places c.requires.loops c.in-Ok.ensures.tree c.in_ok-design-in-Ok.ensures c.in_ok-places-in-Ok.ensures t) c.lines_along.ensures
