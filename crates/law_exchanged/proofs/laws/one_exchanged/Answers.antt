use Rattle.law_exchanged.proofs.Exchanged as laws
use Rattle.law_exchanged.proofs.laws.one_exchanged.Goals as goal

pub returns : goal.returns
returns c n gap within test ts x h e = laws.one-exchanged n gap within test ts x h e
