use Rattle.law_strengthened_claims.proofs.RenamedTokens.{renamed-spelled}
use Rattle.law_strengthened_claims.proofs.laws.renamed_tokens_are_spelled.Goals as goal

pub returns : goal.returns
returns c n var fresh ts us e h k = renamed-spelled n var fresh ts us e h k
