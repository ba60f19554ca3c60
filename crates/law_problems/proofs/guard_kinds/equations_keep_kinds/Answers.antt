use Rattle.law_problems.proofs.Guards.{equations_keep_kinds, equations_keep_orders}
use Rattle.law_problems.proofs.guard_kinds.equations_keep_kinds.Goals as goal

pub returns-clause-kinds : goal.returns-clause-kinds
returns-clause-kinds c = equations_keep_kinds

pub returns-clause-orders : goal.returns-clause-orders
returns-clause-orders c = equations_keep_orders
