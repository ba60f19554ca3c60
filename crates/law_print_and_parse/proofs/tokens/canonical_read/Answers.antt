use Rattle.law_print_and_parse.proofs.Canonical.{canonical-read}
use Rattle.law_print_and_parse.proofs.tokens.canonical_read.Goals as goal

pub returns : goal.returns
returns c = canonical-read
