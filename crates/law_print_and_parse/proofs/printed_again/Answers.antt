use Rattle.law_print_and_parse.proofs.Joined.{again, one}
use Rattle.law_print_and_parse.proofs.printed_again.Goals as goal

pub returns-clause-again : goal.returns-clause-again
returns-clause-again c = again c.canonical_read.ensures c.same_text.ensures c.fewest_tokens_of_text.ensures.printed

pub returns-clause-one : goal.returns-clause-one
returns-clause-one c = one c.fewest_tokens_of_text.ensures.printed
