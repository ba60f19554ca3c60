-- By computing each text.
use Rattle.std.proofs.Common.{refl}
use Rattle.std.specs.Fmt.{digits}
use Rattle.worked_texts.proofs.ValidTextsComputing.{computing}
use Rattle.worked_texts.proofs.valid_texts.worked_valid_texts.Goals as goal

pub returns-clause-designs : goal.returns-clause-designs
unfolding computing
returns-clause-designs c = refl

pub returns-clause-generated : goal.returns-clause-generated
unfolding computing digits
returns-clause-generated c = refl
