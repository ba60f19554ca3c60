-- By computing each text.
use Rattle.std.proofs.Common.{refl}
use Rattle.worked_texts.specs.CasesWorked.{AreTimed}
use Rattle.worked_texts.specs.WorkedTimes as w
use Rattle.worked_texts.proofs.UsesComputing.{computing}

pub rows-timed : AreTimed w.rows
unfolding computing
rows-timed = refl

pub cycles-timed : AreTimed w.cycles
unfolding computing
cycles-timed = refl

pub same_time-timed : AreTimed w.same_time
unfolding computing
same_time-timed = refl

pub settled-timed : AreTimed w.settled
unfolding computing
settled-timed = refl

pub tomasulo-timed : AreTimed w.tomasulo
unfolding computing
tomasulo-timed = refl
