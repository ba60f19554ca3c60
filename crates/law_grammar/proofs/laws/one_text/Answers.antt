-- The reader reads both.
use Rattle.law_grammar.proofs.Only.{one-text}
use Rattle.law_grammar.proofs.laws.one_text.Goals as goal

pub returns : goal.returns
returns c n m ts x y h k = one-text n m ts x y h k
