use Rattle.worked_obligations.specs.WorkedSoundness.{split_plan, mutual_plan}
use Rattle.law_obligations.proofs.Joined.{sound}
use Rattle.worked_obligations.proofs.WorkedPlans.{is_plan as is_split, no_path as no_split}
use Rattle.worked_obligations.proofs.WorkedMutual.{is_plan as is_mutual, no_path as no_mutual}
use Rattle.worked_obligations.proofs.abstraction.worked_plans.Goals as goal

pub returns-clause-split : goal.returns-clause-split
returns-clause-split c = (is_split, no_split, sound split_plan is_split no_split)

pub returns-clause-mutual : goal.returns-clause-mutual
returns-clause-mutual c = (is_mutual, no_mutual, sound mutual_plan is_mutual no_mutual)
