use Rattle.law_problems.proofs.Guards.{guards_have_kinds}
use Rattle.law_problems.proofs.guard_kinds.guards_have_kinds.Goals as goal

pub returns : goal.returns
returns c = guards_have_kinds
