use Rattle.law_reads.proofs.Results.{results_same}
use Rattle.law_reads.proofs.reads.results_are_same.Goals as goal

pub returns : goal.returns
returns X c w kept other a d have keeps keeps_other everything right others same indexes part b h = results_same w have kept other a d keeps keeps_other indexes everything right others same part b h
