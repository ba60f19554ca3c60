use Rattle.law_print_and_parse.proofs.Lexed.{tokens-readable}
use Rattle.law_print_and_parse.proofs.tokens.only_readable.Goals as goal

pub returns : goal.returns
returns c = tokens-readable
