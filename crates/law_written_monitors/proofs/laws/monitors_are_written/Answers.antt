use Rattle.law_written_monitors.proofs.Items.{monitors-written}
use Rattle.law_written_monitors.proofs.laws.monitors_are_written.Goals as goal

pub returns : goal.returns
returns c = monitors-written
