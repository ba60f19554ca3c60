-- What the rule of expressions spells is read again.
use Rattle.std.proofs.Common.{[]}
use Rattle.law_print_and_parse.proofs.Again.{whole}
use Rattle.smv_print.specs.Expressions.{expr_kinds}
use Rattle.law_print_and_parse.proofs.Within.{expression-again}
use Rattle.law_print_and_parse.proofs.spelling.same_expression.Goals as goal

pub returns : goal.returns
returns c n ts us x h e = (expression-again n ts x [] h).run us [] tt (whole us (expr_kinds x) e)
