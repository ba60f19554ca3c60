use Rattle.smv_single_assignment.specs.Links.{held}
use Rattle.smv_single_assignment.proofs.TouchLaws.{AreUntouched}
use Rattle.smv_single_assignment.proofs.earlier.do_touch.Given as goal

abbrev pub invariant-loop-place : goal.invariant-loop-place
invariant-loop-place l = AreUntouched (held l.table) l.table.classes.items l.start l.middle l.place
