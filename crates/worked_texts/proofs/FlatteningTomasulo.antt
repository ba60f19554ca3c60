-- By computing the flattened text of the machine.
use Rattle.std.proofs.Common.{refl}
use Rattle.worked_texts.specs.FlatteningWorked.{AreFlattened, families}
use Rattle.worked_texts.specs.FlatteningTomasulo as w
use Rattle.worked_texts.proofs.FlatteningComputing.{computing}

pub rows-computed : AreFlattened families w.rows
unfolding computing
rows-computed = refl
