use Rattle.law_arrangements.proofs.Telling.{one_is_told}
use Rattle.law_arrangements.proofs.tries.one_is_told.Goals as goal

pub returns : goal.returns
returns c case nodes steps t u a b e g = one_is_told case nodes steps t u a b e g
