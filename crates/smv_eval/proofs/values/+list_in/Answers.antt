use Rattle.smv_eval.proofs.ValueLaws.{chosen_list}
use Rattle.smv_eval.proofs.values.+list_in.Goals as goal

pub returns-in-Choose : goal.returns-in-Choose
returns-in-Choose t c = chosen_list c.args.problem.now.families _ _ _ _ _ _ c.in-Choose.is c.get.ensures c.list_in.ensures
