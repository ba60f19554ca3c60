use Rattle.smv_splits.proofs.ParamLaws.{new-is}
use Rattle.smv_splits.proofs.params.new_param.Goals as goal

pub returns : goal.returns
returns c = new-is c.args.bound.now c.args.word.now c.args.var c.new_type-over.result c.in_ok-name.name c.new_type-over.ensures c.in_ok-name.ensures
