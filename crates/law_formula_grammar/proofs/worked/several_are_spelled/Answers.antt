use Rattle.law_formula_grammar.proofs.Examples.{several-spelled}
use Rattle.law_formula_grammar.proofs.worked.several_are_spelled.Goals as goal

pub returns : goal.returns
returns c = several-spelled
