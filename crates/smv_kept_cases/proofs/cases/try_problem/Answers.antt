use Rattle.std.specs.Prelude.{option_copied}
use Rattle.smv_kept_cases.proofs.CaseLaws.{tried_old, tried_new}
use Rattle.smv_kept_cases.proofs.cases.try_problem.Goals as goal

pub returns-in-Some-clause-tried : goal.returns-in-Some-clause-tried
returns-in-Some-clause-tried c = λ case e well.
    let found = c.in_ok-kept.ensures.some c.in-Some.set c.in-Some.is in
    tried_old c.args.budgets.nodes c.args.budgets.steps c.args.place case (option_copied c.args.old) c.in-Some.set found.0 (found.1 case e well)

pub returns-in_ok-done-in-None-clause-tried : goal.returns-in_ok-done-in-None-clause-tried
returns-in_ok-done-in-None-clause-tried c = λ case e well.
    tried_new c.args.budgets.nodes c.args.budgets.steps c.args.place case (option_copied c.args.old) (λ set is. c.in_ok-kept.ensures.none c.in-None.is set is case e well) c.in_ok-done-in-None.done.tried (c.in_ok-done-in-None.ensures.searched case e well)
