use Rattle.law_fresh_monitors.proofs.Whole.{translated-exact}
use Rattle.law_fresh_monitors.proofs.laws.translated_is_exact.Goals as goal

pub returns : goal.returns
returns c = translated-exact
