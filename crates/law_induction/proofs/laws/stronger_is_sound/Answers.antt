use Rattle.law_induction.proofs.Trees.{sound}
use Rattle.law_induction.proofs.laws.stronger_is_sound.Goals as goal

pub returns : goal.returns
returns c var fresh set name text inductive h = sound var fresh set name text inductive h
