use Rattle.law_obligations.proofs.WithinLaws.{mix-within}
use Rattle.law_obligations.proofs.outcomes.memberships_mix.Goals as goal

pub returns : goal.returns
returns c = mix-within
