use Rattle.smv_rings.proofs.Few.{images_few}
use Rattle.smv_rings.proofs.laws.few_rings_differ.Goals as goal

pub returns : goal.returns
returns c l ok n ne = images_few l ok n ne
