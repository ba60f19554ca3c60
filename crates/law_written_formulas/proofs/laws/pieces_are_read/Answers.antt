use Rattle.law_written_formulas.proofs.Reading.{pieces-read}
use Rattle.law_written_formulas.proofs.laws.pieces_are_read.Goals as goal

pub returns : goal.returns
returns c = pieces-read
