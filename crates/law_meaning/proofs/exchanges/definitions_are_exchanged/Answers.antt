use Rattle.law_meaning.proofs.ExchangedFlat.{definition}
use Rattle.law_meaning.proofs.exchanges.definitions_are_exchanged.Goals as goal

pub returns : goal.returns
returns c d sizes f g ex layer x plain before there p now then' are = definition sizes f g ex d layer x plain before there p now then' are
