use Rattle.law_strengthened_texts.proofs.Placing.{stronger-text-sound}
use Rattle.law_strengthened_texts.proofs.laws.stronger_text_is_sound.Goals as goal

pub returns : goal.returns
returns k text name var ts x d set l h found is_var is_fresh is_set = stronger-text-sound text name var ts x d set l h found is_var is_fresh is_set
