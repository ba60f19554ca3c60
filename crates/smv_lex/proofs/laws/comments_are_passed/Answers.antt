use Rattle.smv_lex.proofs.Comments.{passes-block, passes-line}
use Rattle.smv_lex.proofs.laws.comments_are_passed.Goals as goal

pub returns : goal.returns
returns c = record { block = passes-block; line = passes-line }
