-- By computing each text.
use Rattle.std.proofs.Common.{refl}
use Rattle.worked_texts.specs.UsesWorked.{AreChosen}
use Rattle.worked_texts.specs.WorkedChoices as w
use Rattle.worked_texts.proofs.UsesComputing.{computing}

pub rows-chosen : AreChosen w.rows
unfolding computing
rows-chosen = refl

pub order-chosen : AreChosen w.order
unfolding computing
order-chosen = refl

pub parentheses-chosen : AreChosen w.parentheses
unfolding computing
parentheses-chosen = refl

pub maps-chosen : AreChosen w.maps
unfolding computing
maps-chosen = refl

pub own-chosen : AreChosen w.own
unfolding computing
own-chosen = refl

pub braces-chosen : AreChosen w.braces
unfolding computing
braces-chosen = refl

pub instances-chosen : AreChosen w.instances
unfolding computing
instances-chosen = refl

pub tomasulo-chosen : AreChosen w.tomasulo
unfolding computing
tomasulo-chosen = refl
