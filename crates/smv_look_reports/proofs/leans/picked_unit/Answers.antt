use Rattle.std.proofs.Common.{◌∙◌, ap, sym}
use Rattle.law_obligations.specs.Outlines.{Outline, unit_in_layer}
use Rattle.smv_look_reports.proofs.leans.picked_unit.Goals as goal

pub returns-in-Some : goal.returns-in-Some
returns-in-Some c =
    let o : Outline = record { design = c.args.design.now; units = c.args.units.now } in
    c.map.ensures ∙ (c.requires.maps c.args.pick.family c.in-Some.layer ∙ sym (ap (unit_in_layer o c.args.pick.family) c.in-Some.is))
