use Rattle.std.proofs.Common.{◌≡◌, ◌++◌, map, drop}
use Rattle.std.specs.Prelude.{unwrap_or}
use Rattle.smv_splits.proofs.guards.all_given.Given as goal

abbrev pub invariant-loop-place : goal.invariant-loop-place
invariant-loop-place l = l.given.items ++ map (λ place. unwrap_or place 0) (drop l.place-index l.places) ≡ map (λ place. unwrap_or place 0) l.places
