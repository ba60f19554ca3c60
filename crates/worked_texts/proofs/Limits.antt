-- By counting what is met in each text.
use Rattle.std.proofs.Common.{refl}
use Rattle.worked_texts.specs.Limits.{Fits4096, Past4096}
use Rattle.worked_texts.proofs.Computing.{computing}

pub fits : Fits4096
unfolding computing
fits = refl

pub past : Past4096
unfolding computing
past = refl
