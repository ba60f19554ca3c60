use Rattle.smv_targets.proofs.GivenLaws.{first_there, later_some}
use Rattle.smv_targets.proofs.targets.+held.Goals as goal

pub returns-then-is_same-clause-among : goal.returns-then-is_same-clause-among
returns-then-is_same-clause-among g t c = first_there _ _ _ c.in-Some.ensures.cases.0

pub returns-clause-among : goal.returns-clause-among
returns-clause-among g t c = later_some _ _ _ _ c.in-Some.ensures.cases.0 c.held.ensures.among
