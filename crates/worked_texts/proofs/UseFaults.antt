-- By computing each text.
use Rattle.std.proofs.Common.{refl}
use Rattle.worked_texts.specs.UsesWorked.{AreFound}
use Rattle.worked_texts.specs.UseFaults as w
use Rattle.worked_texts.proofs.UsesComputing.{computing}

pub rows-found : AreFound w.rows
unfolding computing
rows-found = refl

pub uses-found : AreFound w.uses
unfolding computing
uses-found = refl

pub proved-found : AreFound w.proved
unfolding computing
proved-found = refl

pub instances-found : AreFound w.instances
unfolding computing
instances-found = refl

pub twice-found : AreFound w.twice
unfolding computing
twice-found = refl

pub choices-found : AreFound w.choices
unfolding computing
choices-found = refl

pub braces-found : AreFound w.braces
unfolding computing
braces-found = refl

pub brackets-found : AreFound w.brackets
unfolding computing
brackets-found = refl

pub first-found : AreFound w.first
unfolding computing
first-found = refl

pub tomasulo-found : AreFound w.tomasulo
unfolding computing
tomasulo-found = refl
