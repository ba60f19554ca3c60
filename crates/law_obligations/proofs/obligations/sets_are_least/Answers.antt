use Rattle.law_obligations.proofs.LeastCones.{same_time_is_least, cone_is_least}
use Rattle.law_obligations.proofs.obligations.sets_are_least.Goals as goal

pub returns-clause-same_times : goal.returns-clause-same_times
returns-clause-same_times c s checked u entry = same_time_is_least s checked u entry

pub returns-clause-cones : goal.returns-clause-cones
returns-clause-cones c s checked entry h classes is_case = cone_is_least s checked entry h classes is_case
