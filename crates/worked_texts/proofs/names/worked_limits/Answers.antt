use Rattle.worked_texts.proofs.Limits.{fits, past}
use Rattle.worked_texts.proofs.names.worked_limits.Goals as goal

pub returns-clause-fits : goal.returns-clause-fits
returns-clause-fits c = fits

pub returns-clause-past : goal.returns-clause-past
returns-clause-past c = past
