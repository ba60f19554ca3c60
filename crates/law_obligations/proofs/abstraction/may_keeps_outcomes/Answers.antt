use Rattle.law_obligations.proofs.MayKeeps.{keeps}
use Rattle.law_obligations.proofs.abstraction.may_keeps_outcomes.Goals as goal

pub returns : goal.returns
returns c n types spots facts s is_state kept a picture e b h = keeps n types spots facts s is_state kept a picture e b h
