-- By computing what is found in the machine's text.
use Rattle.std.proofs.Common.{refl}
use Rattle.worked_texts.specs.KindsWorked.{AreFound}
use Rattle.worked_texts.specs.KindsTomasulo as w
use Rattle.worked_texts.proofs.KindsComputing.{computing}

pub rows : AreFound w.rows
unfolding computing
rows = refl
