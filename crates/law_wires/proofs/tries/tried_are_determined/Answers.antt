use Rattle.law_wires.proofs.Tried.{all_determined, has_value}
use Rattle.law_wires.proofs.tries.tried_are_determined.Goals as goal

pub returns-clause-determined : goal.returns-clause-determined
returns-clause-determined c case is keeps have order done x left try reads other beside once = all_determined case is keeps have order done x left try reads other beside once

pub returns-clause-values : goal.returns-clause-values
returns-clause-values c case is keeps have order done x left try reads other beside s v e = has_value case is keeps have order done x left try reads other beside s v e
