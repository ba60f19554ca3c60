use Rattle.law_obligations.proofs.ScopesKeep.{outcome_alike}
use Rattle.law_obligations.proofs.abstraction.outcomes_keep_scopes.Goals as goal

pub returns : goal.returns
returns c n s e scope b d reads long alike = outcome_alike n s e scope b d (record { long = long; alike = alike }) reads
