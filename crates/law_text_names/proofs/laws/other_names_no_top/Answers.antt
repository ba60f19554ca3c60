use Rattle.law_text_names.proofs.Tops.{other-names}
use Rattle.law_text_names.proofs.laws.other_names_no_top.Goals as goal

pub returns : goal.returns
returns c n ts x name h free = other-names n ts x name h free
