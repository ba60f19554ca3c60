use Rattle.std.proofs.Common.{ap, sym, ◌∙◌}
use Rattle.smv_core.specs.declared.flat.Unit.TheVariants.{Claim}
use Rattle.smv_elements.specs.Elements.{put_all}
use Rattle.smv_reads.proofs.Joins.{put-nothing, on-ok-more}
use Rattle.smv_cone.specs.Begins.{read_body, read_unit}
use Rattle.smv_cone.proofs.BeginLaws.{claim-none, claim-some}
use Rattle.smv_cone.proofs.begin.read_claim_at.Goals as goal

pub returns-in-None : goal.returns-in-None
returns-in-None c = sym (ap (put_all c.args.found.now) (claim-none c.args.part.now c.args.claim (sym c.in-None.ensures)) ∙ put-nothing c.args.found.now)

pub returns-in-Some : goal.returns-in-Some
returns-in-Some c =
    on-ok-more c.read_body.result c.read_body.new.found (put_all c.args.found.now (read_body c.args.part.now c.in-Some.said.now)) (put_all c.args.found.now (read_unit c.args.part.now (Claim c.args.claim)))
    (ap (put_all c.args.found.now) (sym (claim-some c.args.part.now c.args.claim c.in-Some.said.now (sym c.in-Some.ensures)))) c.read_body.ensures
