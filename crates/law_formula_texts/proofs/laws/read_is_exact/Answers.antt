use Rattle.law_formula_texts.proofs.Lexed.{read-exact}
use Rattle.law_formula_texts.proofs.laws.read_is_exact.Goals as goal

pub returns : goal.returns
returns c = read-exact
