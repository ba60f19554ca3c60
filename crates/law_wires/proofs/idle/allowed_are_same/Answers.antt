use Rattle.law_wires.proofs.Unread.{allowed_same}
use Rattle.law_wires.proofs.idle.allowed_are_same.Goals as goal

pub returns : goal.returns
returns c case keeps have demands x left others old a b agree = allowed_same case keeps have demands x left others old a b agree
