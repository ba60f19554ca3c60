use Rattle.law_written_monitors.proofs.Alone.{monitors-whole}
use Rattle.law_written_monitors.proofs.laws.monitors_are_whole.Goals as goal

pub returns : goal.returns
returns c = monitors-whole
