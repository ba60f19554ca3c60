use Rattle.law_reads.proofs.Outcomes.{may_same}
use Rattle.law_reads.proofs.reads.outcomes_are_same.Goals as goal

pub returns : goal.returns
returns c w kept other a d keeps keeps_other e b h = may_same w kept other a d keeps keeps_other e b h
