use Rattle.law_verdicts.proofs.FewBeads.{few_beads}
use Rattle.law_verdicts.proofs.budgets.beads_are_few.Goals as goal

pub returns : goal.returns
returns c n tables = few_beads n tables
