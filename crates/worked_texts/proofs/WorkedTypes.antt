-- By computing each text.
use Rattle.std.proofs.Common.{refl}
use Rattle.worked_texts.specs.CasesWorked.{HaveTypes, KeepLimits}
use Rattle.worked_texts.specs.WorkedTypes as w
use Rattle.worked_texts.proofs.UsesComputing.{computing}

pub types-types : HaveTypes w.types
unfolding computing
types-types = refl

pub parameters-kept : KeepLimits w.parameters
unfolding computing
parameters-kept = refl

pub numbers-kept : KeepLimits w.numbers
unfolding computing
numbers-kept = refl
