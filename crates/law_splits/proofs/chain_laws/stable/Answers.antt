use Rattle.law_splits.proofs.Stable as laws
use Rattle.law_splits.proofs.chain_laws.stable.Goals as goal

pub returns : goal.returns
returns c d s h e = laws.leads_at_last d s h e
