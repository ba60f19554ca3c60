-- What the rule of statements spells is read again.
use Rattle.std.proofs.Common.{[]}
use Rattle.smv_print.specs.Statements.{stmt_kinds}
use Rattle.law_print_and_parse.proofs.Again.{whole}
use Rattle.law_print_and_parse.proofs.Blocks.{statements-kept}
use Rattle.law_print_and_parse.proofs.spelling.same_statement.Goals as goal

pub returns : goal.returns
returns c n ts us x h e = (statements-kept n ts x [] h).run us [] tt (whole us (stmt_kinds x) e)
