use Rattle.std.proofs.Common.{length}
use Rattle.smv_choices.proofs.misfits.+first_other_type.Given as goal

abbrev pub decreases-first_other_type : goal.decreases-first_other_type
decreases-first_other_type l = length l.words.now
