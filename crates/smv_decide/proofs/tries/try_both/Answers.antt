use Rattle.smv_decide.proofs.TryLaws.{declared_told, wholes_told, later_told}
use Rattle.smv_decide.proofs.tries.try_both.Goals as goal

pub try_near-requires-clause-before : goal.try_near-requires-clause-before
try_near-requires-clause-before c = declared_told c.args.problem.now c.args.budgets.nodes c.args.budgets.steps c.in_ok-first.first c.in_ok-first.ensures

pub returns-clause-whole : goal.returns-clause-whole
returns-clause-whole c =
    later_told c.args.problem.now c.args.budgets.nodes c.args.budgets.steps c.in_ok-first.first c.in_ok-tried.tried
    (wholes_told c.args.problem.now c.args.budgets.nodes c.args.budgets.steps c.in_ok-first.first c.in_ok-first.ensures) c.in_ok-tried.ensures.tried c.in_ok-tried.ensures.counted
