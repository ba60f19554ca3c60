use Rattle.law_meaning.proofs.ExchangedFlat.{claim, map-there}
use Rattle.law_meaning.proofs.exchanges.units_are_exchanged.Goals as goal

pub returns-clause-claims : goal.returns-clause-claims
returns-clause-claims c d sizes f g ex x vs before there now then' are h = claim sizes f g ex d x vs now then' are h

pub returns-clause-maps : goal.returns-clause-maps
returns-clause-maps c d sizes f g ex layer family vs plain before there p now then' are h = map-there sizes f g ex d layer family vs plain before there p now then' are h
