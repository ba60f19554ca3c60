use Rattle.std.proofs.Common.{◌≡◌, length}
use Rattle.smv_scope.specs.Held.{AreLed}
use Rattle.smv_scope.proofs.build.structs_of.Given as goal

abbrev pub invariant-loop-place : goal.invariant-loop-place
invariant-loop-place l = (length l.structs.items ≡ l.place) × AreLed l.text l.structs.items
