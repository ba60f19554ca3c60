use Rattle.smv_look_sets.proofs.SoughtLaws.{one_of}
use Rattle.smv_look_sets.proofs.cases.one_case.Goals as goal

pub returns : goal.returns
returns c = λ case is. one_of c.args.cases.now c.args.place case c.requires is
