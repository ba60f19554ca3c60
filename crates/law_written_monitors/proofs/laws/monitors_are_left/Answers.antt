use Rattle.law_written_monitors.proofs.Left.{monitors-left}
use Rattle.law_written_monitors.proofs.laws.monitors_are_left.Goals as goal

pub returns : goal.returns
returns c = monitors-left
