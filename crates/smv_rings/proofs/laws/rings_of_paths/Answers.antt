use Rattle.smv_rings.proofs.Rings.{ring_to, ring_from}
use Rattle.smv_rings.proofs.laws.rings_of_paths.Goals as goal

pub returns : goal.returns
returns c l ok k s = (λ e. ring_to l ok k s e, λ is. ring_from l ok k s is)
