use Rattle.std.proofs.Common.{sym, subst}
use Rattle.smv_obligations.specs.Shared.{IsShared}
use Rattle.smv_decide.specs.Tasks.{case_in}
use Rattle.smv_kept_cases.proofs.cases.try_case.Goals as goal

pub try_problem-requires-clause-problem : goal.try_problem-requires-clause-problem
try_problem-requires-clause-problem c = (_, c.in_ok-made.ensures.problem.0, c.in_ok-made.ensures.problem.1)

pub returns-clause-shared : goal.returns-clause-shared
returns-clause-shared c = subst (IsShared c.args.task.now.design.now) (sym c.in_ok-done.ensures.shared) c.in_ok-made.ensures.shared

pub returns-clause-tried : goal.returns-clause-tried
returns-clause-tried c = c.in_ok-done.ensures.tried (case_in c.args.task.now c.args.place.case.now.classes) c.in_ok-made.ensures.problem.0 c.in_ok-made.ensures.problem.1
