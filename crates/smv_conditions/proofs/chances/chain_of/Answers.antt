use Rattle.smv_conditions.proofs.ChainLaws.{fronts_made}
use Rattle.smv_conditions.proofs.chances.chain_of.Goals as goal

pub chain_before-requires-clause-made : goal.chain_before-requires-clause-made
chain_before-requires-clause-made g c = (fronts_made _ _ _ _ c.in-Some.ensures.cases.0 c.requires.made).0

pub chain_before-requires-clause-last : goal.chain_before-requires-clause-last
chain_before-requires-clause-last g c = (fronts_made _ _ _ _ c.in-Some.ensures.cases.0 c.requires.made).1
