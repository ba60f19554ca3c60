use Rattle.law_splits.proofs.Types as laws
use Rattle.law_splits.proofs.chain_laws.by_types.Goals as goal

pub returns : goal.returns
returns c d = laws.types_tell d
