-- What the rule of references spells is read again.
use Rattle.std.proofs.Common.{[]}
use Rattle.smv_print.specs.Items.{ref_kinds}
use Rattle.law_print_and_parse.proofs.Again.{whole}
use Rattle.law_print_and_parse.proofs.References.{keeps-used}
use Rattle.law_print_and_parse.proofs.spelling.same_reference.Goals as goal

pub returns : goal.returns
returns c n length ts us x h e rise = (keeps-used length n ts x [] h).run us [] rise (whole us (ref_kinds x) e)
