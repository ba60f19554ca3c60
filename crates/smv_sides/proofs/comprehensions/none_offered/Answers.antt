use Rattle.std.proofs.Common.{◌∙◌, ap, not}
use Rattle.smv_sides.proofs.comprehensions.none_offered.Goals as goal

pub returns-clause-holds : goal.returns-clause-holds
returns-clause-holds g c n a = c.in_ok-r.ensures.holds a ∙ ap not (c.in_ok-some.ensures.holds n a)
