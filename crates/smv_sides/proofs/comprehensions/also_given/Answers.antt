use Rattle.std.proofs.Common.{◌∙◌}
use Rattle.law_obligations.proofs.MixLaws.{or_same}
use Rattle.smv_targets.proofs.GivenLaws.{target_kept}
use Rattle.smv_sides.proofs.comprehensions.also_given.Goals as goal

pub returns-clause-target : goal.returns-clause-target
returns-clause-target g c = target_kept _ _ _ _ _ _ c.in_ok-r.ensures.keeps c.in_ok-more.ensures.target

pub returns-clause-holds : goal.returns-clause-holds
returns-clause-holds g c w world a = c.in_ok-r.ensures.holds a ∙ or_same (c.in_ok-more.ensures.keeps.same _ c.requires.before_made a) (c.in_ok-more.ensures.holds w world a)
