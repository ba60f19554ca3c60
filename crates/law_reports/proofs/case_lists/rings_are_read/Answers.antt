use Rattle.law_reports.proofs.Paths.{rings_to, rings_from}
use Rattle.law_reports.proofs.case_lists.rings_are_read.Goals as goal

pub returns : goal.returns
returns c case is k s = (λ ring. rings_to case is k s ring, λ both. rings_from case is k s both.0 both.1)
