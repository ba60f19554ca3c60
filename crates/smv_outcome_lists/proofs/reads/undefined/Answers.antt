use Rattle.smv_outcome_lists.proofs.ReadLaws.{one_undefined}
use Rattle.smv_outcome_lists.proofs.reads.undefined.Goals as goal

pub returns-clause-any : goal.returns-clause-any
returns-clause-any g c n p a = one_undefined n _ _ a p _ _ _ c.new-offers.ensures.items c.in_ok-push.ensures.items (c.constant-when.ensures.holds a)
