use Rattle.law_obligations.proofs.NowOrder.{falls, falls_in_order}
use Rattle.law_obligations.proofs.abstraction.now_uses_hold_no_cycle.Goals as goal

pub returns-clause-fall : goal.returns-clause-fall
returns-clause-fall c edge n u v hu hv e = falls edge n u v hu hv e

pub returns-clause-order : goal.returns-clause-order
returns-clause-order c uses n u v e = falls_in_order uses n u v e
