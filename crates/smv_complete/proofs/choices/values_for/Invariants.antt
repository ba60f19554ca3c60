use Rattle.std.proofs.Common.{◌≡◌, map, take, Some}
use Rattle.smv_spots.specs.declared.spots.Spot.{Spot}
use Rattle.smv_eval.specs.Answers.{value_at}
use Rattle.smv_complete.proofs.choices.values_for.Given as goal

abbrev pub invariant-loop-spot : goal.invariant-loop-spot
invariant-loop-spot l = l.values.items ≡ map (λ (s : Spot). value_at l.problem l.list (Some s)) (take l.spot-index l.spots)
