use Rattle.smv_look_reports.proofs.CaseLaws.{right_have_cases}
use Rattle.smv_look_reports.proofs.cases.right_results_have_cases.Goals as goal

pub returns : goal.returns
returns c = right_have_cases c.cases_are_of_leaves.ensures
