use Rattle.std.proofs.Common.{◌+◌, ◌*◌}
use Rattle.smv_parse_formulas.proofs.formulas.+formulas.Given as goal

abbrev pub decreases-later : goal.decreases-later
decreases-later l = 2 * l.levels

abbrev pub decreases-under : goal.decreases-under
decreases-under l = 2 * l.levels

abbrev pub decreases-formula : goal.decreases-formula
decreases-formula l = 2 * l.levels + 1
