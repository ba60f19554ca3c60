use Rattle.std.proofs.Common.{length}
use Rattle.smv_choices.proofs.misfits.+is_param_over.Given as goal

abbrev pub decreases-is_param_over : goal.decreases-is_param_over
decreases-is_param_over l = length l.brackets.now
