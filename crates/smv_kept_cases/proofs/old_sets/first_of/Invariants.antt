use Rattle.std.proofs.Common.{take}
use Rattle.smv_kept_cases.specs.OldSets.{AreFirst}
use Rattle.smv_kept_cases.proofs.old_sets.first_of.Given as goal

abbrev pub invariant-loop-set : goal.invariant-loop-set
invariant-loop-set l = AreFirst (take l.set-index l.sets) l.first
