use Rattle.law_obligations.proofs.CasesCover.{classes_cover}
use Rattle.law_obligations.proofs.abstraction.growing_classes_cover.Goals as goal

pub returns : goal.returns
returns c size vs h = classes_cover size vs h
