-- By computing what is found in the machine's text.
use Rattle.std.proofs.Common.{refl}
use Rattle.worked_texts.specs.Worked.{AreFound}
use Rattle.worked_texts.specs.Tomasulo as w
use Rattle.worked_texts.proofs.Computing.{computing}

pub rows : AreFound w.rows
unfolding computing
rows = refl
