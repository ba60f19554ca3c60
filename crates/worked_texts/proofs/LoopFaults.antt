-- By computing the first fault of each text.
use Rattle.std.proofs.Common.{refl}
use Rattle.worked_texts.specs.LoopsAndLayersWorked.{AreFound}
use Rattle.worked_texts.specs.LoopFaults as w
use Rattle.worked_texts.proofs.SingleAssignmentComputing.{computing}

pub rows-found : AreFound w.rows
unfolding computing
rows-found = refl

pub loops-found : AreFound w.loops
unfolding computing
loops-found = refl

pub delays-found : AreFound w.delays
unfolding computing
delays-found = refl

pub indexes-found : AreFound w.indexes
unfolding computing
indexes-found = refl

pub sets-found : AreFound w.sets
unfolding computing
sets-found = refl

pub conditions-found : AreFound w.conditions
unfolding computing
conditions-found = refl

pub modules-found : AreFound w.modules
unfolding computing
modules-found = refl

pub base_definitions-found : AreFound w.base_definitions
unfolding computing
base_definitions-found = refl

pub reading-found : AreFound w.reading
unfolding computing
reading-found = refl

pub assigning-found : AreFound w.assigning
unfolding computing
assigning-found = refl

pub passes-found : AreFound w.passes
unfolding computing
passes-found = refl

pub tomasulo-found : AreFound w.tomasulo
unfolding computing
tomasulo-found = refl
