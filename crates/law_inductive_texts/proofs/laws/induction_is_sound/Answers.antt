use Rattle.law_inductive_texts.proofs.Theorem.{induction-sound}
use Rattle.law_inductive_texts.proofs.laws.induction_is_sound.Goals as goal

pub returns : goal.returns
returns z text name var ts x c set short l h p found us new m k q s = induction-sound text name var ts x c set short l h p found us new m k q s
