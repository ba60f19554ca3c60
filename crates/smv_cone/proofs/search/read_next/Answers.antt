use Rattle.std.proofs.Common.{ap, sym, ◌∙◌}
use Rattle.smv_elements.specs.Elements.{put_all}
use Rattle.smv_reads.specs.Reading.{read_of}
use Rattle.smv_reads.proofs.Joins.{put-nothing, on-ok-more}
use Rattle.smv_cone.specs.Searching.{read_next}
use Rattle.smv_cone.proofs.SearchLaws.{next-none, next-some}
use Rattle.smv_cone.proofs.search.read_next.Goals as goal

pub returns-in-None : goal.returns-in-None
returns-in-None c =
    sym (ap (put_all c.args.found.now) (next-none c.args.part.now c.args.family c.args.own.now (sym c.in-None.ensures)) ∙ put-nothing c.args.found.now)

pub returns-in-Some : goal.returns-in-Some
returns-in-Some c =
    on-ok-more c.read_definition.result c.read_definition.new.found (put_all c.args.found.now (read_of c.args.part.now.view c.args.own.now c.in-Some.def.now)) (put_all c.args.found.now (read_next c.args.part.now c.args.family c.args.own.now))
    (ap (put_all c.args.found.now) (sym (next-some c.args.part.now c.args.family c.args.own.now c.in-Some.def.now (sym c.in-Some.ensures)))) c.read_definition.ensures
