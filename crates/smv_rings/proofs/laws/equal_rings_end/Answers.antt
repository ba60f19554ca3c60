use Rattle.smv_rings.proofs.PathLaws.{equal_ends}
use Rattle.smv_rings.proofs.laws.equal_rings_end.Goals as goal

pub returns : goal.returns
returns c l ok k closed none = equal_ends l ok k closed none
