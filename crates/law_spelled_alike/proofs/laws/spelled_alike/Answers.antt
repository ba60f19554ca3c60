use Rattle.law_spelled_alike.proofs.Alike as laws
use Rattle.law_spelled_alike.proofs.laws.spelled_alike.Goals as goal

pub returns-clause-alike : goal.returns-clause-alike
returns-clause-alike c n m le ts us x h e = laws.spelled-alike n m le ts us x h e

pub returns-clause-without : goal.returns-clause-without
returns-clause-without c n ts x h = laws.no-semicolon n ts x h
