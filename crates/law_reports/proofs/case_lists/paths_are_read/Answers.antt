use Rattle.law_reports.proofs.Paths.{paths_read, paths_written}
use Rattle.law_reports.proofs.case_lists.paths_are_read.Goals as goal

pub returns-clause-read : goal.returns-clause-read
returns-clause-read c case is k path v = paths_read case is k path v

pub returns-clause-written : goal.returns-clause-written
returns-clause-written c case is k states e v = paths_written case is k states e v
