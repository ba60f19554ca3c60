-- By computing each text.
use Rattle.std.proofs.Common.{refl}
use Rattle.worked_texts.specs.SplitsWorked.{AreFound}
use Rattle.worked_texts.specs.SplitFaults as w
use Rattle.worked_texts.proofs.SplitsComputing.{computing}

pub rows-found : AreFound w.rows
unfolding computing
rows-found = refl

pub of-found : AreFound w.of
unfolding computing
of-found = refl

pub again-found : AreFound w.again
unfolding computing
again-found = refl

pub astray-found : AreFound w.astray
unfolding computing
astray-found = refl

pub counts-found : AreFound w.counts
unfolding computing
counts-found = refl

pub unbound-found : AreFound w.unbound
unfolding computing
unbound-found = refl

pub doubled-found : AreFound w.doubled
unfolding computing
doubled-found = refl

pub types-found : AreFound w.types
unfolding computing
types-found = refl

pub equations-found : AreFound w.equations
unfolding computing
equations-found = refl

pub kinds-found : AreFound w.kinds
unfolding computing
kinds-found = refl

pub strays-found : AreFound w.strays
unfolding computing
strays-found = refl

pub instances-found : AreFound w.instances
unfolding computing
instances-found = refl

pub first-found : AreFound w.first
unfolding computing
first-found = refl

pub tomasulo-found : AreFound w.tomasulo
unfolding computing
tomasulo-found = refl
