use Rattle.smv_layers.proofs.AgreeLaws.{agree}
use Rattle.smv_layers.proofs.laws.base_definitions_agree.Goals as goal

pub returns : goal.returns
returns c = agree
