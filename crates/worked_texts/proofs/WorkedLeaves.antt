-- By computing each text.
use Rattle.std.proofs.Common.{refl}
use Rattle.worked_texts.specs.SplitsWorked.{HaveLeaves, AreHeld}
use Rattle.worked_texts.specs.WorkedLeaves as w
use Rattle.worked_texts.proofs.SplitsComputing.{computing}

pub ends-told : HaveLeaves w.ends
unfolding computing
ends-told = refl

pub parameters-told : HaveLeaves w.parameters
unfolding computing
parameters-told = refl

pub brackets-told : HaveLeaves w.brackets
unfolding computing
brackets-told = refl

pub guards-told : AreHeld w.guards
unfolding computing
guards-told = refl
