-- By computing.
use Rattle.std.proofs.Common.{refl}
use Rattle.law_obligations.proofs.Computing.{computing}
use Rattle.law_arrangements.specs.ArrangedLists.{lists_over}
use Rattle.law_obligations.specs.Codes.{bits_for}
use Rattle.law_obligations.specs.Readings.{reading}
use Rattle.law_arrangements.proofs.worked.worked_wires.Goals as goal

pub returns : goal.returns
unfolding computing lists_over reading bits_for
returns c = (refl, refl, refl, refl, refl, refl)
