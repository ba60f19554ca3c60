use Rattle.law_formula_trees.proofs.Joined.{extends}
use Rattle.law_formula_trees.proofs.trees.translations_extend.Goals as goal

pub returns : goal.returns
returns c = extends
