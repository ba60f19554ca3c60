use Rattle.law_places.proofs.Expressions.{placeless-outcome}
use Rattle.law_places.proofs.meaning.outcomes_are_placeless.Goals as goal

pub returns : goal.returns
returns c scene s e b = placeless-outcome scene s e b
