use Rattle.law_strengthened_claims.proofs.RenamedBytes.{renamed-read}
use Rattle.law_strengthened_claims.proofs.laws.renamed_bytes_are_read.Goals as goal

pub returns : goal.returns
returns c bytes var fresh ts h is_fresh = renamed-read bytes var fresh ts h is_fresh
