use Rattle.std.proofs.Common.{take, ap, sym, ◌∙◌}
use Rattle.smv_problem.specs.declared.problem.Demand.TheVariants.{Holds}
use Rattle.smv_obligations.proofs.Lists.{if-ok-more}
use Rattle.smv_obligations.proofs.TargetLaws.{no-claim-target, claim-target}
use Rattle.smv_obligations.proofs.targets.claim_target.Goals as goal

pub returns-in-None : goal.returns-in-None
returns-in-None c = c.nothing_held.ensures ∙ sym (no-claim-target c.args.part.now c.args.claim (sym c.in-None.ensures))

pub returns-in-Some : goal.returns-in-Some
returns-in-Some c =
    if-ok-more c.held.result _ _
    (ap (Holds c.in-Some.claim.now.body) (c.first_spots.ensures ∙ ap (λ k. take k c.args.part.now.params.now) c.len.ensures) ∙ sym (claim-target c.args.part.now c.args.claim c.in-Some.claim.now (sym c.in-Some.ensures))) c.held.ensures
