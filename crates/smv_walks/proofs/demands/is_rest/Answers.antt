use Rattle.std.proofs.Common.{sym, ◌∙◌}
use Rattle.smv_walks.proofs.DemandLaws.{at_number, at_class, at_rest}
use Rattle.smv_walks.proofs.demands.is_rest.Goals as goal

pub returns-in-Number : goal.returns-in-Number
returns-in-Number c p e = at_number p _ (sym c.in-Number.is ∙ e)

pub returns-in-Named : goal.returns-in-Named
returns-in-Named c p e = at_class p _ (sym c.in-Named.is ∙ e)

pub returns-in-Rest : goal.returns-in-Rest
returns-in-Rest c p e = at_rest p _ (sym c.in-Rest.is ∙ e)
