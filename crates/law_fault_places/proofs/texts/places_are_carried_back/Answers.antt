use Rattle.law_fault_places.proofs.Inductions.{carried-back}
use Rattle.law_fault_places.proofs.texts.places_are_carried_back.Goals as goal

pub returns : goal.returns
returns c = λ text name var s at is within. carried-back c.trees_of_texts_are_within.ensures c.stronger_is_placed.ensures text name var s at is within
