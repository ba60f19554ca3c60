use Rattle.std.proofs.Common.{sym, ◌∙◌}
use Rattle.smv_split_faults.proofs.leaf.leaves.Goals as goal

pub returns-in-Some : goal.returns-in-Some
returns-in-Some c = sym (sym c.in-Some.is ∙ c.in_ok-fault.ensures)

pub returns : goal.returns
returns c = (sym (sym c.in_default.is ∙ c.in_ok-fault.ensures), c.in_ok-made.ensures)
