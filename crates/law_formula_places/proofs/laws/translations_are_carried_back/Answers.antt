use Rattle.law_formula_places.proofs.Edits.{carried-back}
use Rattle.law_formula_places.proofs.laws.translations_are_carried_back.Goals as goal

pub returns : goal.returns
returns c = carried-back
