use Rattle.law_wires.proofs.Unread.{unread}
use Rattle.law_wires.proofs.idle.not_read_are_unread.Goals as goal

pub returns : goal.returns
returns c case keeps have xs not_read = unread case keeps have xs not_read
