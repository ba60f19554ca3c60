use Rattle.smv_look_lint.proofs.TruthLaws.{sets_allow, values_allow}
use Rattle.smv_look_lint.proofs.truth.strays_rule_nothing_out.Goals as goal

pub returns-clause-values : goal.returns-clause-values
returns-clause-values c = values_allow

pub returns-clause-sets : goal.returns-clause-sets
returns-clause-sets c = sets_allow
