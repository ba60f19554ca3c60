use Rattle.law_problems.proofs.Parts.{designs_are_fit, splits_are_kinded, sizes_are_few}
use Rattle.law_problems.proofs.fit_designs.designs_are_fit.Goals as goal

pub returns-clause-fit : goal.returns-clause-fit
returns-clause-fit c = designs_are_fit

pub returns-clause-splits : goal.returns-clause-splits
returns-clause-splits c = splits_are_kinded

pub returns-clause-sizes : goal.returns-clause-sizes
returns-clause-sizes c = sizes_are_few
