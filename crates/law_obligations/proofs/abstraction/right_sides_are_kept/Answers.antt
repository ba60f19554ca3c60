use Rattle.law_obligations.proofs.RightKeeps.{right_may, right_must}
use Rattle.law_obligations.proofs.abstraction.right_sides_are_kept.Goals as goal

pub returns-clause-may : goal.returns-clause-may
returns-clause-may c n types spots facts s is_state kept a picture t e b h v k = (right_may n types spots facts s is_state kept a picture t e b v h k).1

pub returns-clause-must : goal.returns-clause-must
returns-clause-must c n types spots facts s is_state kept a picture t e b h v k m = right_must n types spots facts s is_state kept a picture t e b v h k m
