use Rattle.law_obligations.proofs.CoverLeaf.{leaf_cases_cover}
use Rattle.law_obligations.proofs.abstraction.leaf_cases_cover.Goals as goal

pub returns : goal.returns
returns c n apart sized params indexed keeps values typed = leaf_cases_cover n apart sized params indexed keeps values typed
