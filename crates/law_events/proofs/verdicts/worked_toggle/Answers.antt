use Rattle.law_events.proofs.Row.{toggle_counts}
use Rattle.law_events.proofs.verdicts.worked_toggle.Goals as goal

pub returns : goal.returns
returns c = toggle_counts
