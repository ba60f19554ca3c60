use Rattle.smv_posed.proofs.Posed.{whole_if}
use Rattle.smv_posed.proofs.problems.plan_of.Goals as goal

pub returns : goal.returns
returns c = whole_if c.plans_of_valid_texts_are_whole.ensures _ c.read_design.result c.read_design.ensures.plan
