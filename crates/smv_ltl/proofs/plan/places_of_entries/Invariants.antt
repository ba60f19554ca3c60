use Rattle.std.proofs.Common.{◌≡◌, ℕ, drop}
use Rattle.std.specs.Option.{option_or}
use Rattle.smv_ltl.specs.Plans.{noted, place_in}
use Rattle.smv_ltl.proofs.plan.places_of_entries.Given as goal

abbrev pub invariant-loop-n : goal.invariant-loop-n
invariant-loop-n l = (at : ℕ) → option_or (noted l.places at) (place_in l.n (drop l.n l.entries) at) ≡ place_in 0 l.entries at
