use Rattle.std.proofs.Common.{true}
use Rattle.law_obligations.proofs.WalkLaws.{gist-if, gist-first}
use Rattle.law_obligations.proofs.outcomes.definitions_gist.Goals as goal

pub returns : goal.returns
returns c = record { conditions = λ everything f. gist-if everything f; firsts = λ f. gist-first (λ p. true) f }
