use Rattle.law_wires.proofs.Unread.{goes_on}
use Rattle.law_wires.proofs.idle.elements_go_on.Goals as goal

pub returns : goal.returns
returns c case is keeps have x left h demand e others = goes_on case keeps have is x left h demand e others
