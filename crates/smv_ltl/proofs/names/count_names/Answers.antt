use Rattle.std.proofs.Common.{◌∙◌}
use Rattle.smv_ltl.proofs.NameLaws.{counted}
use Rattle.smv_ltl.proofs.names.count_names.Goals as goal

pub returns-clause-length : goal.returns-clause-length
returns-clause-length c = c.names_among.ensures.count ∙ counted c.args.tokens.now
