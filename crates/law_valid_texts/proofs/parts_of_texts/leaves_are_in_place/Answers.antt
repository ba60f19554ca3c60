use Rattle.law_valid_texts.proofs.Places.{leaves_are_in_place}
use Rattle.law_valid_texts.proofs.parts_of_texts.leaves_are_in_place.Goals as goal

pub returns : goal.returns
returns c = leaves_are_in_place
