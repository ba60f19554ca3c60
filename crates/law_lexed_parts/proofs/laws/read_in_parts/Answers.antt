use Rattle.law_lexed_parts.proofs.Parts as laws
use Rattle.law_lexed_parts.proofs.laws.read_in_parts.Goals as goal

pub returns-clause-text : goal.returns-clause-text
returns-clause-text c bytes other ts h apart = laws.read-before bytes other ts h apart

pub returns-clause-part : goal.returns-clause-part
returns-clause-part c bytes other ts us h k apart = laws.parts-read bytes other ts us h k apart
