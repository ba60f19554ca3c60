use Rattle.smv_inductive.proofs.Means.{equal_inductive}
use Rattle.smv_inductive.proofs.laws.equal_rings_are_inductive.Goals as goal

pub returns : goal.returns
returns c = equal_inductive
