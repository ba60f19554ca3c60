use Rattle.law_meaning.proofs.Exchanged.{right_side}
use Rattle.law_meaning.proofs.meaning.right_sides_are_exchanged.Goals as goal

pub returns : goal.returns
returns c scene f g s t ex are target e b = right_side scene f g ex s t are target e b
