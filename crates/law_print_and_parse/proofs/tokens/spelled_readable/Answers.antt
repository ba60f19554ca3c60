use Rattle.law_print_and_parse.proofs.Canonical.{spelled-readable}
use Rattle.law_print_and_parse.proofs.tokens.spelled_readable.Goals as goal

pub returns : goal.returns
returns c = spelled-readable
