use Rattle.law_obligations.proofs.PicturesExist.{pictured}
use Rattle.law_obligations.proofs.abstraction.pictures_exist.Goals as goal

pub returns : goal.returns
returns c n types spots facts kept keeps_named s = pictured n types spots facts kept keeps_named s
