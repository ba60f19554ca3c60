use Rattle.smv_rings.proofs.PathLaws.{least_passes}
use Rattle.smv_rings.proofs.laws.least_paths_pass.Goals as goal

pub returns : goal.returns
returns c l ok k path is least = least_passes l ok k path is least
