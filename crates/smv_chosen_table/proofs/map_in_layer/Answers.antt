use Rattle.std.proofs.Common.{slice_get, ap, sym, ◌∙◌}
use Rattle.law_obligations.specs.Outlines.{Outline, map_by}
use Rattle.smv_chosen_table.specs.Tables.{map_of_unit}
use Rattle.smv_chosen_table.proofs.TableLaws.{said}
use Rattle.smv_chosen_table.proofs.map_in_layer.Goals as goal

pub returns-in-None : goal.returns-in-None
returns-in-None c =
    let o : Outline = record { design = c.args.design.now; units = c.args.units.now } in
    c.base_at.ensures ∙ ap (map_by o c.args.family) (c.in-None.ensures ∙ c.requires.noted.maps c.args.family c.args.layer)

pub returns-in-Some : goal.returns-in-Some
returns-in-Some c =
    let o : Outline = record { design = c.args.design.now; units = c.args.units.now } in
    c.map_of.ensures
    ∙ (ap (map_of_unit c.args.design.now) c.unit_at.ensures ∙ (sym (said o (slice_get c.args.units.now c.in-Some.place)) ∙ ap (map_by o c.args.family) (c.in-Some.ensures ∙ c.requires.noted.maps c.args.family c.args.layer)))
