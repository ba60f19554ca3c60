-- By computing.
use Rattle.std.proofs.Common.{refl}
use Rattle.std.specs.Fmt.{digits}
use Rattle.worked_texts.proofs.generated.worked_texts.Goals as goal

pub returns : goal.returns
unfolding digits
returns c = record { none = refl; one = refl; two = refl; further = record { tenth = refl; last = refl } }
