use Rattle.law_exchanged.proofs.Bytes as laws
use Rattle.law_exchanged.proofs.laws.bytes_exchanged.Goals as goal

pub returns : goal.returns
returns c n gap within test text ts x l h e = laws.bytes-exchanged n gap within test text ts x l h e
