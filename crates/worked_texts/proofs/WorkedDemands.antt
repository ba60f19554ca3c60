-- By computing each text.
use Rattle.std.proofs.Common.{refl}
use Rattle.worked_texts.specs.CasesWorked.{HaveDemands}
use Rattle.worked_texts.specs.WorkedDemands as w
use Rattle.worked_texts.proofs.UsesComputing.{computing}

pub itself-demanded : HaveDemands w.itself
unfolding computing
itself-demanded = refl

pub where_kept-demanded : HaveDemands w.where_kept
unfolding computing
where_kept-demanded = refl
