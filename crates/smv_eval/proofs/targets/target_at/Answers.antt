use Rattle.smv_eval.proofs.SureLaws.{target_made, target_is}
use Rattle.smv_eval.proofs.targets.target_at.Goals as goal

pub returns-clause-made : goal.returns-clause-made
returns-clause-made c = target_made _

pub returns-clause-is : goal.returns-clause-is
returns-clause-is c = target_is c.args.problem.now c.args.element.now c.args.value _ _ _ _ c.in_ok-indexes.ensures c.in_ok-every.ensures c.as_slice.ensures.value c.in_ok-table.ensures
