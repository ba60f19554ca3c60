use Rattle.law_problems.proofs.Forms.{is_well_formed}
use Rattle.law_problems.proofs.problems.problems_are_well_formed.Goals as goal

pub returns : goal.returns
returns c d leaf choice part times classes is_case few = is_well_formed d leaf choice part times classes is_case few
