-- The reader's answer is right, and two right answers are the same.
use Rattle.law_grammar.proofs.Only.{only-text, only-unexpected, only-too-deep}
use Rattle.law_grammar.proofs.laws.only_answer.Goals as goal

pub returns-clause-text : goal.returns-clause-text
returns-clause-text c n ts x h = only-text n ts x h

pub returns-clause-unexpected : goal.returns-clause-unexpected
returns-clause-unexpected c n length ts at rise x = only-unexpected n length ts at rise x

pub returns-clause-too_deep : goal.returns-clause-too_deep
returns-clause-too_deep c n length ts at rise x = only-too-deep n length ts at rise x
