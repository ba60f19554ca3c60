use Rattle.std.proofs.Common.{sym, subst}
use Rattle.smv_obligations.specs.Shared.{IsShared}
use Rattle.smv_check.specs.Progress.{IsNext}
use Rattle.smv_check.specs.Tasks.{case_in}
use Rattle.smv_check.proofs.cases.look_at_set.Goals as goal

pub judge-requires-clause-problem : goal.judge-requires-clause-problem
judge-requires-clause-problem c = (_, c.in_ok-problem.ensures.problem.0, c.in_ok-problem.ensures.problem.1)

pub returns-in-Some-clause-looked : goal.returns-in-Some-clause-looked
returns-in-Some-clause-looked c =
    subst (IsNext (case_in c.args.task.now c.args.case.now.classes) c.args.set.now c.args.progress) c.in-Some.is
    (c.in_ok-next.ensures (case_in c.args.task.now c.args.case.now.classes) c.in_ok-problem.ensures.problem.0 c.in_ok-problem.ensures.problem.1)

pub returns-in-Some-clause-shared : goal.returns-in-Some-clause-shared
returns-in-Some-clause-shared c = subst (IsShared c.args.task.now.design.now) (sym c.taken_back.ensures) c.in_ok-problem.ensures.shared

pub returns-in-None-clause-looked : goal.returns-in-None-clause-looked
returns-in-None-clause-looked c =
    subst (IsNext (case_in c.args.task.now c.args.case.now.classes) c.args.set.now c.args.progress) c.in-None.is
    (c.in_ok-next.ensures (case_in c.args.task.now c.args.case.now.classes) c.in_ok-problem.ensures.problem.0 c.in_ok-problem.ensures.problem.1)
