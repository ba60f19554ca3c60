use Rattle.std.proofs.Common.{◌≡◌, ◌++◌, drop}
use Rattle.smv_cone.specs.Parts.{spots_in}
use Rattle.smv_cone.proofs.parts.spots_of.Given as goal

abbrev pub invariant-loop-place : goal.invariant-loop-place
invariant-loop-place l = l.spots.items ++ spots_in (drop l.place l.over) (drop l.place l.classes) ≡ spots_in l.over l.classes
