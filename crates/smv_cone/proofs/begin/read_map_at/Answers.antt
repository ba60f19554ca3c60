use Rattle.std.proofs.Common.{ap, sym, ◌∙◌}
use Rattle.smv_core.specs.declared.flat.Unit.TheVariants.{Map}
use Rattle.smv_elements.specs.Elements.{put_all}
use Rattle.smv_reads.proofs.Joins.{put-nothing, on-ok-more}
use Rattle.smv_cone.specs.Begins.{read_map, read_unit}
use Rattle.smv_cone.proofs.BeginLaws.{map-none, map-some}
use Rattle.smv_cone.proofs.begin.read_map_at.Goals as goal

pub returns-in-None : goal.returns-in-None
returns-in-None c = sym (ap (put_all c.args.found.now) (map-none c.args.part.now c.args.def (sym c.in-None.ensures)) ∙ put-nothing c.args.found.now)

pub returns-in-Some : goal.returns-in-Some
returns-in-Some c =
    on-ok-more c.read_map.result c.read_map.new.found (put_all c.args.found.now (read_map c.args.part.now c.in-Some.map.now)) (put_all c.args.found.now (read_unit c.args.part.now (Map c.args.def)))
    (ap (put_all c.args.found.now) (sym (map-some c.args.part.now c.args.def c.in-Some.map.now c.requires (sym c.in-Some.ensures)))) c.read_map.ensures
