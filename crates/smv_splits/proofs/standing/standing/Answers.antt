use Rattle.std.proofs.Common.{◌∙◌}
use Rattle.smv_splits.proofs.StandingLaws.{standing-step}
use Rattle.smv_splits.proofs.standing.standing.Goals as goal

pub loop-var-preserved : goal.loop-var-preserved
loop-var-preserved c =
    standing-step c.args.split.now c.loop-var.var c.deref.result.now c.place_in.result c.loop-var.places.items c.push.new.self.items
    (c.deref.ensures.value ∙ c.in_ok-vars.ensures) c.place_in.ensures c.in_ok-push.ensures.items c.loop-var.invariant
