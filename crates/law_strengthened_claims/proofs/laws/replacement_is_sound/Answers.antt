use Rattle.law_strengthened_claims.proofs.Replacing.{replaced}
use Rattle.law_strengthened_claims.proofs.laws.replacement_is_sound.Goals as goal

pub returns : goal.returns
returns c n name var fresh set text x p is_var is_fresh is_set smaller ts d h k same = replaced n name var fresh set text x p is_var is_fresh is_set smaller ts d h k same
