use Rattle.law_reports.proofs.Below.{are_lists}
use Rattle.law_reports.proofs.case_lists.case_lists_are_lists.Goals as goal

pub returns : goal.returns
returns c k = are_lists k
