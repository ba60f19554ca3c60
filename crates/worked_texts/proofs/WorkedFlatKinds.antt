-- By computing the answer of each text.
use Rattle.std.proofs.Common.{refl}
use Rattle.worked_texts.proofs.FlatteningComputing.{computing}
use Rattle.worked_texts.specs.FlatKindsWorked.{AreAnswered, AreJudged}
use Rattle.worked_texts.specs.WorkedFlatKinds as w

pub right-answered : AreAnswered w.right
unfolding computing
right-answered = refl

pub operands-answered : AreAnswered w.operands
unfolding computing
operands-answered = refl

pub references-answered : AreAnswered w.references
unfolding computing
references-answered = refl

pub types-answered : AreAnswered w.types
unfolding computing
types-answered = refl

pub sets-answered : AreAnswered w.sets
unfolding computing
sets-answered = refl

pub places-answered : AreAnswered w.places
unfolding computing
places-answered = refl

pub numbers-answered : AreJudged w.numbers
unfolding computing
numbers-answered = refl

pub tomasulo-answered : AreAnswered w.tomasulo
unfolding computing
tomasulo-answered = refl
