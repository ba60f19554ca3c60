use Rattle.std.proofs.Common.{◌-◌, length}
use Rattle.smv_flatten.proofs.acts.+foralls.Given as goal

abbrev pub decreases-foralls : goal.decreases-foralls
decreases-foralls l = length l.around.now - l.k
