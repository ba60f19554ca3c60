use Rattle.law_reads.proofs.Demands.{met_same}
use Rattle.law_reads.proofs.reads.demands_are_same.Goals as goal

pub returns : goal.returns
returns c p other have keeps keeps_other old before a d demand now earlier = met_same p other have keeps keeps_other old before a d demand now earlier
