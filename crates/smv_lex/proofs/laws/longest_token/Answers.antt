use Rattle.smv_lex.proofs.Longest.{longest-token}
use Rattle.smv_lex.proofs.laws.longest_token.Goals as goal

pub returns : goal.returns
returns c = longest-token
