use Rattle.std.proofs.Common.{◌≡◌, ◌&&◌, map, drop}
use Rattle.std.specs.List.{list_any}
use Rattle.smv_core.specs.FlatMeaning.{Numbered}
use Rattle.smv_spots.specs.Spots.{place_in}
use Rattle.smv_encode.specs.ChosenDemands.{is_of, is_moving}
use Rattle.smv_encode.proofs.chosen.some_moves.Given as goal

abbrev pub invariant-loop-demand : goal.invariant-loop-demand
invariant-loop-demand l = (n : Numbered) → list_any (λ d. is_of l.element d && is_moving (map (place_in n) l.indexes) d) (drop l.demand-index l.demands) ≡ list_any (λ d. is_of l.element d && is_moving (map (place_in n) l.indexes) d) l.demands
