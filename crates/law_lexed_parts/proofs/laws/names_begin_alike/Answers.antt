use Rattle.law_lexed_parts.proofs.Letters.{cut-before-name, tokens-before-name}
use Rattle.law_lexed_parts.proofs.laws.names_begin_alike.Goals as goal

pub returns : goal.returns
returns x c d more other p q bytes h = (cut-before-name c d more other p q 0 bytes h, tokens-before-name c d more other p q 0 0 bytes h)
