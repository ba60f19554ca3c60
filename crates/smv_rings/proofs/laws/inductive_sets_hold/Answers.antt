use Rattle.smv_rings.proofs.Rings.{inductive_safe}
use Rattle.smv_rings.proofs.laws.inductive_sets_hold.Goals as goal

pub returns : goal.returns
returns c l set is = inductive_safe l set is
