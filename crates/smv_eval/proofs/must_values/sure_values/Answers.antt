use Rattle.std.specs.Option.{option_copied}
use Rattle.smv_eval.proofs.SureLaws.{definition_said}
use Rattle.smv_eval.proofs.must_values.sure_values.Goals as goal

pub returns-in_ok-values-in-Defined : goal.returns-in_ok-values-in-Defined
returns-in_ok-values-in-Defined c =
    definition_said c.args.problem.now (option_copied c.args.old) c.args.cells.now c.args.demand.now c.in-Defined.element c.in-Defined.init c.in-Defined.next c.in-Defined.comb c.in_ok-values-in-Defined.values c.in-Defined.is c.in_ok-values-in-Defined.ensures
