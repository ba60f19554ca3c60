use Rattle.law_obligations.proofs.MixLaws.{mix-quantified}
use Rattle.law_obligations.proofs.QuantifierLaws.{mix-quantified-any}
use Rattle.law_obligations.proofs.outcomes.quantifiers_mix.Goals as goal

pub returns : goal.returns
returns c = record { conjunctions = mix-quantified; disjunctions = mix-quantified-any }
