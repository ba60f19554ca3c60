use Rattle.law_obligations.proofs.SumLaws.{any-summed}
use Rattle.law_obligations.proofs.ReadLaws.{found-within}
use Rattle.law_obligations.proofs.outcomes.parts_fold.Goals as goal

pub returns : goal.returns
returns c = record { sums = any-summed; reads = found-within }
