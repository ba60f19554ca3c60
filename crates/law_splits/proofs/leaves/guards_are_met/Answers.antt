use Rattle.law_splits.proofs.ValuesMet as met
use Rattle.law_splits.proofs.leaves.guards_are_met.Goals as goal

pub returns : goal.returns
returns c d read none sizes each unit leaf h s values k = met.guards_are_met d read none sizes each unit leaf h s values k
