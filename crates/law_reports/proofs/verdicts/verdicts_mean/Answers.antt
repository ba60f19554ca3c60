use Rattle.law_reports.proofs.Decided.{true_none, false_shortest}
use Rattle.law_reports.proofs.verdicts.verdicts_mean.Goals as goal

pub returns-clause-none : goal.returns-clause-none
returns-clause-none c case is bits nodes steps k v = true_none case is nodes steps bits k v

pub returns-clause-shortest : goal.returns-clause-shortest
returns-clause-shortest c case is bits nodes steps k v = false_shortest case is nodes steps bits k v
