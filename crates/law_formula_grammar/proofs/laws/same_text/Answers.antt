use Rattle.law_formula_grammar.proofs.Same.{same-text}
use Rattle.law_formula_grammar.proofs.Back.{back-text}
use Rattle.law_formula_grammar.proofs.laws.same_text.Goals as goal

pub returns : goal.returns
returns c n ts ft once = (same-text n ts ft once, back-text n ts ft once)
