use Rattle.std.proofs.Common.{subst}
use Rattle.smv_rings.specs.Paths.{Violates}
use Rattle.smv_rings.proofs.PathLaws.{violating_of, violates_of}
use Rattle.smv_rings.proofs.laws.paths_violate.Goals as goal

pub returns : goal.returns
returns c l k s = (violating_of l k s, λ found. subst (Violates l k) found.2 (violates_of l k found.0 found.1))
