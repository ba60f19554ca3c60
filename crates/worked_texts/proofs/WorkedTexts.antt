-- By computing the flattened text of each text.
use Rattle.std.proofs.Common.{refl}
use Rattle.worked_texts.specs.FlatteningWorked.{AreFlattened, families, front, items, whole}
use Rattle.worked_texts.specs.WorkedTexts as w
use Rattle.worked_texts.proofs.FlatteningComputing.{computing}

pub families-computed : AreFlattened families w.families
unfolding computing
families-computed = refl

pub fronts-computed : AreFlattened front w.fronts
unfolding computing
fronts-computed = refl

pub paths-computed : AreFlattened items w.paths
unfolding computing
paths-computed = refl

pub connections-computed : AreFlattened items w.connections
unfolding computing
connections-computed = refl

pub loops-computed : AreFlattened items w.loops
unfolding computing
loops-computed = refl

pub switches-computed : AreFlattened items w.switches
unfolding computing
switches-computed = refl

pub layers_and_binders-computed : AreFlattened items w.layers_and_binders
unfolding computing
layers_and_binders-computed = refl

pub expressions-computed : AreFlattened items w.expressions
unfolding computing
expressions-computed = refl

pub goals-computed : AreFlattened items w.goals
unfolding computing
goals-computed = refl

pub wholes-computed : AreFlattened whole w.wholes
unfolding computing
wholes-computed = refl
