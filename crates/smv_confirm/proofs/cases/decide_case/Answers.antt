use Rattle.std.proofs.Common.{sym, subst}
use Rattle.smv_obligations.specs.Shared.{IsShared}
use Rattle.smv_concrete.specs.Subjects.{case_in}
use Rattle.smv_confirm.proofs.cases.decide_case.Goals as goal

pub decide_problem-requires-clause-problem : goal.decide_problem-requires-clause-problem
decide_problem-requires-clause-problem c = (_, c.in_ok-made.ensures.problem.0, c.in_ok-made.ensures.problem.1)

pub returns-clause-shared : goal.returns-clause-shared
returns-clause-shared c = subst (IsShared c.args.subject.now.design.now) (sym c.in_ok-decided.ensures.shared) c.in_ok-made.ensures.shared

pub returns-clause-decided : goal.returns-clause-decided
returns-clause-decided c = c.in_ok-decided.ensures.decided (case_in c.args.subject.now c.args.case.now.classes) c.in_ok-made.ensures.problem.0 c.in_ok-made.ensures.problem.1
