use Rattle.std.proofs.Common.{map, sym, ◌∙◌}
use Rattle.smv_symmetric.specs.Held.{as_met}
use Rattle.smv_symmetric.proofs.TurnLaws.{met-yes, met-no}
use Rattle.smv_symmetric.proofs.operands.met.Goals as goal

pub returns-then-has_set : goal.returns-then-has_set
returns-then-has_set c = c.first_number.ensures ∙ met-yes (map as_met c.args.operands.now) (sym c.has_set.ensures ∙ c.if-has_set.true)

pub returns-else-has_set : goal.returns-else-has_set
returns-else-has_set c = met-no (map as_met c.args.operands.now) (sym c.has_set.ensures ∙ c.if-has_set.false)
