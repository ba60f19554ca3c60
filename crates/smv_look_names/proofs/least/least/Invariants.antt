use Rattle.std.proofs.Common.{◌≡◌, drop}
use Rattle.smv_mentions.specs.Scopes.{first_of_places}
use Rattle.smv_first_fault.specs.Firsts as spec
use Rattle.smv_look_names.proofs.least.least.Given as goal

abbrev pub invariant-loop-place : goal.invariant-loop-place
invariant-loop-place l = first_of_places l.first (spec.least (drop l.place-index l.places)) ≡ spec.least l.places
