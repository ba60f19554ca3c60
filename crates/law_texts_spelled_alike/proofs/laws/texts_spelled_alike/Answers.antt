use Rattle.law_texts_spelled_alike.proofs.Alike as laws
use Rattle.law_texts_spelled_alike.proofs.laws.texts_spelled_alike.Goals as goal

pub returns : goal.returns
returns c n m le ts us x h e = laws.texts-alike n m le ts us x h e
