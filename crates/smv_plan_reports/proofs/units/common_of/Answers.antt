use Rattle.std.proofs.Common.{◌∙◌}
use Rattle.smv_plan_reports.proofs.units.common_of.Goals as goal

pub in_common-requires-clause-names : goal.in_common-requires-clause-names
in_common-requires-clause-names c = c.as_slice.ensures ∙ c.in_ok-numbers.ensures.names

pub in_common-requires-clause-set_names : goal.in_common-requires-clause-set_names
in_common-requires-clause-set_names c = c.as_slice-2.ensures ∙ c.in_ok-numbers.ensures.set_names
