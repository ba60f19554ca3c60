use Rattle.law_designs.proofs.SameActs.{acts-of-text}
use Rattle.law_designs.proofs.flattening.statements_are_the_same.Goals as goal

pub returns : goal.returns
returns c = λ text. acts-of-text text
