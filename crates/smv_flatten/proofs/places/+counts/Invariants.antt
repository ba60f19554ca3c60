use Rattle.std.proofs.Common.{◌≡◌, ◌+◌, sum_by, drop}
use Rattle.smv_flatten.specs.Places.{assignments_in}
use Rattle.smv_flatten.proofs.places.+counts.Given as goal

abbrev pub invariant-count_all-loop-part : goal.invariant-count_all-loop-part
invariant-count_all-loop-part l = l.all + sum_by assignments_in (drop l.part-index l.parts) ≡ sum_by assignments_in l.parts
