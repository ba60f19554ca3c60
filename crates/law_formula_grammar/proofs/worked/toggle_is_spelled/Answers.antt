use Rattle.law_formula_grammar.proofs.Examples.{toggle-spelled}
use Rattle.law_formula_grammar.proofs.worked.toggle_is_spelled.Goals as goal

pub returns : goal.returns
returns c = toggle-spelled
