use Rattle.law_reports.proofs.Plans.{is_entry}
use Rattle.law_reports.proofs.plan_cases.parts_are_entries.Goals as goal

pub returns : goal.returns
returns c d leaves choices u leaf choice at = is_entry d leaves choices u leaf choice at
