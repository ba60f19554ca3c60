use Rattle.smv_choices.specs.Parts.{picks_by, claims_by, unknown_by}
use Rattle.smv_choices.proofs.StepLaws.{gather-step, place-step}
use Rattle.smv_choices.proofs.found.all_uses.Goals as goal

pub loop-x-preserved : goal.loop-x-preserved
loop-x-preserved c =
    let d = c.args.tables.now.design.now in
    let uses = c.args.uses.now in
    record {
      picks = gather-step (picks_by d) uses c.loop-x.x-index c.x-item.result c.loop-x.out.picks c.add_use.new.out.picks _ c.loop-x-test.true c.x-item.is c.in_ok-add_use.ensures.picks c.loop-x.invariant.picks;
      claims = gather-step (claims_by d) uses c.loop-x.x-index c.x-item.result c.loop-x.out.claims c.add_use.new.out.claims _ c.loop-x-test.true c.x-item.is c.in_ok-add_use.ensures.claims c.loop-x.invariant.claims;
      unknown = place-step (unknown_by d) uses c.loop-x.x-index c.x-item.result c.loop-x.out.unknown c.add_use.new.out.unknown _ c.loop-x-test.true c.x-item.is c.in_ok-add_use.ensures.unknown c.loop-x.invariant.unknown;
    }
