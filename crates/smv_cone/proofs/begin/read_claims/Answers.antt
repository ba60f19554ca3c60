use Rattle.std.proofs.Common.{List, ap, ◌∙◌}
use Rattle.std.specs.List.{flat_map}
use Rattle.smv_core.specs.declared.flat.Assumed.{Assumed}
use Rattle.smv_elements.specs.Elements.{put_all}
use Rattle.smv_reads.proofs.Joins.{turn-kept, turns-over}
use Rattle.smv_cone.specs.Begins.{read_assumed}
use Rattle.smv_cone.proofs.begin.read_claims.Goals as goal

pub loop-used-preserved : goal.loop-used-preserved
loop-used-preserved c =
    turn-kept (λ (used : Assumed). read_assumed c.args.part.now used.claim) c.as_slice-used-items.result.now c.loop-used.used-index _ c.loop-used.found _ _ c.loop-used-test.true c.in_ok-read_assumed.ensures c.loop-used.invariant

pub returns : goal.returns
returns c =
    turns-over (λ (used : Assumed). read_assumed c.args.part.now used.claim) c.as_slice-used-items.result.now c.loop-used.used-index c.loop-used.found _ c.loop-used-test.false c.loop-used.invariant
    ∙ ap (λ (us : List Assumed). put_all c.args.found.now (flat_map (λ used. read_assumed c.args.part.now used.claim) us)) c.as_slice-used-items.ensures
