use Rattle.law_reads.proofs.Demands.{target_same}
use Rattle.law_reads.proofs.reads.targets_are_same.Goals as goal

pub returns : goal.returns
returns c p other have keeps keeps_other old before a d guards now earlier = target_same p other have keeps keeps_other old before a d guards now earlier
