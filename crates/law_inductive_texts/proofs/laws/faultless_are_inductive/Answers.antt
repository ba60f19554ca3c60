use Rattle.law_inductive_texts.proofs.Whole.{faultless-inductive}
use Rattle.law_inductive_texts.proofs.laws.faultless_are_inductive.Goals as goal

pub returns : goal.returns
returns k x new name var fresh c set p q found same no_top = faultless-inductive x new name var fresh c set p q found same no_top
