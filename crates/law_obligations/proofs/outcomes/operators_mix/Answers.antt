use Rattle.law_obligations.specs.May.{seen}
use Rattle.law_obligations.proofs.MixLaws.{mix-conjunction, mix-disjunction, mix-implication}
use Rattle.law_obligations.proofs.IffLaws.{mix-iff}
use Rattle.law_obligations.proofs.outcomes.operators_mix.Goals as goal

pub returns : goal.returns
returns c = record { conjunctions = mix-conjunction seen; disjunctions = mix-disjunction seen; implications = mix-implication seen; equivalences = mix-iff }
