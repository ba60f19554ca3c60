use Rattle.law_verdicts.proofs.Answered.{says}
use Rattle.law_verdicts.proofs.searches.searches_decide.Goals as goal

pub returns : goal.returns
returns c case is d nodes images o answer = says case is nodes images d o answer
