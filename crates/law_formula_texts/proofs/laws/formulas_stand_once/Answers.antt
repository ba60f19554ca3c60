use Rattle.law_formula_texts.proofs.Counting.{once}
use Rattle.law_formula_texts.proofs.laws.formulas_stand_once.Goals as goal

pub returns : goal.returns
returns c = once
