use Rattle.std.specs.Option.{option_copied}
use Rattle.smv_eval.proofs.SureLaws.{sure_said}
use Rattle.smv_eval.proofs.must_values.is_sure.Goals as goal

pub returns : goal.returns
returns c =
    sure_said c.args.problem.now (option_copied c.args.old) c.args.cells.now c.args.element.now c.args.init.now c.args.next.now c.args.comb.now c.args.value _ _ _ c.in_ok-not_sure.not_sure c.in_ok-target.ensures.is c.in_ok-not_sure.ensures.is
