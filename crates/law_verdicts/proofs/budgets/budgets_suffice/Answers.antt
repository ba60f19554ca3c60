use Rattle.law_verdicts.proofs.Enough.{steps_suffice, nodes_suffice}
use Rattle.law_verdicts.proofs.budgets.budgets_suffice.Goals as goal

pub returns-clause-steps : goal.returns-clause-steps
returns-clause-steps c l ok nodes steps enough v = steps_suffice l ok nodes steps enough v

pub returns-clause-nodes : goal.returns-clause-nodes
returns-clause-nodes c l ok nodes steps enough count v = nodes_suffice l ok nodes steps enough count v
