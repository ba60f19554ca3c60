use Rattle.worked_obligations.proofs.WorkedRules.{pairs_share, none_pairs, none_stands, parts_stand}
use Rattle.worked_obligations.proofs.abstraction.worked_conflicts.Goals as goal

pub returns-clause-pairs_share : goal.returns-clause-pairs_share
returns-clause-pairs_share c = pairs_share

pub returns-clause-none_pairs : goal.returns-clause-none_pairs
returns-clause-none_pairs c = none_pairs

pub returns-clause-none_stands : goal.returns-clause-none_stands
returns-clause-none_stands c = none_stands

pub returns-clause-parts_stand : goal.returns-clause-parts_stand
returns-clause-parts_stand c = parts_stand
