use Rattle.std.proofs.Common.{◌≡◌, length}
use Rattle.smv_single_assignment.specs.Classes.{AreSteady}
use Rattle.smv_single_assignment.proofs.classes.steady.Given as goal

abbrev pub invariant-loop-place : goal.invariant-loop-place
invariant-loop-place l = record { long : length l.marks.items ≡ length l.classes; steady : AreSteady l.classes l.values l.marks.items l.place }
