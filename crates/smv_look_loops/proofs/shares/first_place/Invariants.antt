use Rattle.std.proofs.Common.{◌≡◌, map, drop}
use Rattle.smv_loops.specs.Held.{reading_of, reference_of}
use Rattle.smv_look_loops.specs.Shares.{first_place}
use Rattle.smv_look_loops.proofs.shares.first_place.Given as goal

abbrev pub invariant-loop-read : goal.invariant-loop-read
invariant-loop-read l = first_place l.families (map reference_of l.reads) (reading_of l.b) ≡ first_place l.families (map reference_of (drop l.read-index l.reads)) (reading_of l.b)
