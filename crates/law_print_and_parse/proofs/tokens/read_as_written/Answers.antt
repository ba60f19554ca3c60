use Rattle.law_print_and_parse.proofs.Reading.{reads}
use Rattle.law_print_and_parse.proofs.tokens.read_as_written.Goals as goal

pub returns : goal.returns
returns c ks readable = let all = reads 0 ks readable in (all.tokens, all.read, all.same)
