-- What the rule of types spells is read again.
use Rattle.std.proofs.Common.{[]}
use Rattle.smv_print.specs.Types.{type_kinds}
use Rattle.law_print_and_parse.proofs.Again.{whole}
use Rattle.law_print_and_parse.proofs.Types.{types-kept}
use Rattle.law_print_and_parse.proofs.spelling.same_type.Goals as goal

pub returns : goal.returns
returns c n ts us x h e = (types-kept n ts x [] h).run us [] tt (whole us (type_kinds x) e)
