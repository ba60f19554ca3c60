use Rattle.smv_eval.proofs.PathLaws.{violating_there}
use Rattle.smv_eval.proofs.violations.is_violating.Goals as goal

pub returns : goal.returns
returns c case is well = violating_there c.args.problem.now c.args.states.now c.in_ok-violates.violates c.in_ok-violates.ensures.states c.in_ok-violates.ensures.violates case is well
