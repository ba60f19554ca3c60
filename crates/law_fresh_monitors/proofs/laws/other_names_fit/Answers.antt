use Rattle.law_fresh_monitors.proofs.OldText.{fit}
use Rattle.law_fresh_monitors.proofs.laws.other_names_fit.Goals as goal

pub returns : goal.returns
returns c = fit
