use Rattle.law_induction.proofs.RenamedOutcomes.{outcome-renamed}
use Rattle.law_induction.proofs.laws.renamed_reads_alike.Goals as goal

pub returns : goal.returns
returns c var fresh scene s e b b' p h = outcome-renamed var fresh scene s e b b' p h
