use Rattle.std.proofs.Common.{refl}
use Rattle.smv_conditions.proofs.MergeLaws.{found}
use Rattle.smv_conditions.proofs.lists.position.Goals as goal

pub returns-then-is_outcome : goal.returns-then-is_outcome
returns-then-is_outcome g c = found _ _ _ _ _ c.loop-i-test.true (c.if-is_outcome.ensures.0 refl)
