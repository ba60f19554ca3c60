use Rattle.law_meaning.proofs.Symmetry.{outcome-ren}
use Rattle.law_meaning.proofs.meaning.outcomes_are_exchanged.Goals as goal

pub returns : goal.returns
returns c scene f g s t ex are e b = outcome-ren scene.sizes f g ex scene.types scene.families scene.instance s t are e b
