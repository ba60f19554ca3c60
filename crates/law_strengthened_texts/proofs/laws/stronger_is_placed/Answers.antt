use Rattle.law_strengthened_texts.proofs.Placing.{stronger-placed}
use Rattle.law_strengthened_texts.proofs.laws.stronger_is_placed.Goals as goal

pub returns : goal.returns
returns k text name var ts x d set l h found = stronger-placed text name var ts x d set l h found
