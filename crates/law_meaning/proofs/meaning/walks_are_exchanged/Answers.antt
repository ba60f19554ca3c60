use Rattle.law_meaning.proofs.Exchanged.{walked}
use Rattle.law_meaning.proofs.meaning.walks_are_exchanged.Goals as goal

pub returns : goal.returns
returns c scene f g s t ex are target kind x act around b h free have whole = walked scene f g ex s t are target kind x act around b h free have whole
