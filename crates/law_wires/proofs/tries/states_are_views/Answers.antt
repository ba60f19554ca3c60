use Rattle.law_wires.proofs.Tried.{view_agrees}
use Rattle.law_wires.proofs.tries.states_are_views.Goals as goal

pub returns : goal.returns
returns c case is order done x left try t worked = view_agrees case is order done x left try t worked
