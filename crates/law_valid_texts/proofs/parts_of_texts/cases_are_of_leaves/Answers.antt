use Rattle.law_valid_texts.proofs.Rooms.{cases_are_of_leaves}
use Rattle.law_valid_texts.proofs.parts_of_texts.cases_are_of_leaves.Goals as goal

pub returns : goal.returns
returns c = cases_are_of_leaves
