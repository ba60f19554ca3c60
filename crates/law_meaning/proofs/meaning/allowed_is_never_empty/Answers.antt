use Rattle.law_meaning.proofs.NeverEmpty.{allowed-filled}
use Rattle.law_meaning.proofs.meaning.allowed_is_never_empty.Goals as goal

pub returns : goal.returns
returns c d sizes layer x before now some = allowed-filled d sizes layer x some before now
