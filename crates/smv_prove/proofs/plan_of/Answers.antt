use Rattle.smv_prove.proofs.ReadyLaws.{if_ready}
use Rattle.smv_prove.proofs.plan_of.Goals as goal

pub returns-clause-plan : goal.returns-clause-plan
returns-clause-plan c = if_ready c.plans_of_valid_texts_are_whole.ensures c.args.text.now c.read_design.result c.read_design.ensures.plan
