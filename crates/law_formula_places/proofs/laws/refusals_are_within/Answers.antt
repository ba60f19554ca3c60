use Rattle.law_formula_places.proofs.Refusals.{refused-within}
use Rattle.law_formula_places.proofs.laws.refusals_are_within.Goals as goal

pub returns : goal.returns
returns c = refused-within c.one_answer.ensures.within
