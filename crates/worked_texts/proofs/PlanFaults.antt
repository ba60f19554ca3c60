-- By computing each text.
use Rattle.std.proofs.Common.{refl}
use Rattle.worked_texts.specs.PlanFaults as w
use Rattle.smv_plans.specs.Plans.{plan_fault}
use Rattle.worked_texts.proofs.UsesComputing.{computing}

pub passes-found : w.AreFound w.passes
unfolding computing plan_fault
passes-found = refl

pub leaves-found : w.AreFound w.leaves
unfolding computing plan_fault
leaves-found = refl
