-- By computing each text.
use Rattle.std.proofs.Common.{refl}
use Rattle.worked_texts.specs.SetTypesWorked.{AreFound}
use Rattle.worked_texts.specs.SetTypeFaults as w
use Rattle.worked_texts.proofs.FlatteningComputing.{computing}

pub rows-found : AreFound w.rows
unfolding computing
rows-found = refl

pub comparisons-found : AreFound w.comparisons
unfolding computing
comparisons-found = refl

pub orders-found : AreFound w.orders
unfolding computing
orders-found = refl

pub within-found : AreFound w.within
unfolding computing
within-found = refl

pub lists-found : AreFound w.lists
unfolding computing
lists-found = refl

pub branches-found : AreFound w.branches
unfolding computing
branches-found = refl

pub labels-found : AreFound w.labels
unfolding computing
labels-found = refl

pub targets-found : AreFound w.targets
unfolding computing
targets-found = refl

pub indexes-found : AreFound w.indexes
unfolding computing
indexes-found = refl

pub loops-found : AreFound w.loops
unfolding computing
loops-found = refl

pub reach-found : AreFound w.reach
unfolding computing
reach-found = refl

pub first-found : AreFound w.first
unfolding computing
first-found = refl

pub tomasulo-found : AreFound w.tomasulo
unfolding computing
tomasulo-found = refl
