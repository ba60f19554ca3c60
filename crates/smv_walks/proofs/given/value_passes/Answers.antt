use Rattle.smv_targets.proofs.GivenLaws.{target_kept}
use Rattle.smv_walks.proofs.StepLaws.{may_passes, must_passes}
use Rattle.smv_walks.proofs.given.value_passes.Goals as goal

pub returns-in_ok-r-in-May-clause-is : goal.returns-in_ok-r-in-May-clause-is
returns-in_ok-r-in-May-clause-is g c = may_passes _ _ _ _ _ _ _ _ c.in-May.is (λ z. c.in_ok-r-in-May.ensures.holds z.view.world)

pub returns-in_ok-r-in-Must-clause-is : goal.returns-in_ok-r-in-Must-clause-is
returns-in_ok-r-in-Must-clause-is g c = must_passes _ _ _ _ _ _ _ _ _ _ c.in-Must.is (λ z. c.in_ok-c-in-Must.ensures.holds z.view.world) c.in_ok-r-in-Must.ensures.holds

pub returns-in_ok-r-in-Must-clause-target : goal.returns-in_ok-r-in-Must-clause-target
returns-in_ok-r-in-Must-clause-target g c = target_kept _ _ _ _ _ _ c.in_ok-r-in-Must.ensures.keeps c.in_ok-c-in-Must.ensures.target
