use Rattle.law_written_monitors.proofs.Names.{names-are}
use Rattle.law_written_monitors.proofs.laws.names_are_names.Goals as goal

pub returns : goal.returns
returns c = names-are
