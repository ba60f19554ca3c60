use Rattle.law_text_names.proofs.Read.{names-read}
use Rattle.law_text_names.proofs.laws.names_are_read.Goals as goal

pub returns : goal.returns
returns k n text ts x name var c set l h found = names-read n text ts x name var c set l h found
