use Rattle.law_formula_texts.proofs.Texts.{nowhere}
use Rattle.law_formula_texts.proofs.laws.other_names_are_nowhere.Goals as goal

pub returns : goal.returns
returns c = nowhere
