use Rattle.std.proofs.Common.{List, [], ap, sym, ◌∙◌}
use Rattle.smv_core.specs.declared.flat.Param.{Param}
use Rattle.smv_elements.specs.Elements.{put_all}
use Rattle.smv_reads.proofs.Joins.{put-nothing, on-ok-more}
use Rattle.smv_cone.specs.Begins.{read_instances, read_assumed}
use Rattle.smv_cone.proofs.BeginLaws.{assumed-none, assumed-some}
use Rattle.smv_cone.proofs.begin.read_assumed.Goals as goal

pub returns-in-None : goal.returns-in-None
returns-in-None c = sym (ap (put_all c.args.found.now) (assumed-none c.args.part.now c.args.claim (sym c.in-None.ensures)) ∙ put-nothing c.args.found.now)

pub returns-in-Some : goal.returns-in-Some
returns-in-Some c =
    on-ok-more c.read_instances.result c.read_instances.new.found (put_all c.args.found.now (read_instances c.args.part.now.view [] c.as_slice-params.result.now c.in-Some.said.now.body)) (put_all c.args.found.now (read_assumed c.args.part.now c.args.claim))
    (ap (put_all c.args.found.now)
    (ap (λ (ps : List Param). read_instances c.args.part.now.view [] ps c.in-Some.said.now.body) c.as_slice-params.ensures ∙ sym (assumed-some c.args.part.now c.args.claim c.in-Some.said.now (sym c.in-Some.ensures)))) c.read_instances.ensures
