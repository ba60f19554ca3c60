use Rattle.smv_rings.specs.Schedule.{after, turn, ring}
use Rattle.smv_rings.proofs.Early.{true_or_right}
use Rattle.smv_rings.proofs.laws.rings_grow.Goals as goal

pub returns : goal.returns
returns c l k a e = true_or_right (after (ring l k) (turn l k) a) (ring l k a) e
