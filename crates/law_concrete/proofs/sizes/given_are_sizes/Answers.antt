use Rattle.law_concrete.proofs.Given.{sizes-right}
use Rattle.law_concrete.proofs.sizes.given_are_sizes.Goals as goal

pub returns : goal.returns
returns c = λ d apart declared given each long info h. sizes-right d.sets given apart declared each long info h
