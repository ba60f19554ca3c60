use Rattle.law_strengthened_claims.proofs.Written.{written-spells}
use Rattle.law_strengthened_claims.proofs.laws.stronger_is_spelled.Goals as goal

pub returns : goal.returns
returns c n var fresh set smaller own ts d e h k same kinds = written-spells n var fresh set smaller own ts d e h k same kinds
