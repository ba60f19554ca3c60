use Rattle.std.proofs.Common.{◌≡◌, drop, map}
use Rattle.std.specs.List.{list_all}
use Rattle.smv_core.specs.FlatMeaning.{Numbered}
use Rattle.smv_spots.specs.Spots.{place_in}
use Rattle.smv_wires.specs.Ready.{is_ready_for}
use Rattle.smv_wires.proofs.ready.are_ready_for.Given as goal

abbrev pub invariant-loop-demand : goal.invariant-loop-demand
invariant-loop-demand l = (n : Numbered) → list_all (is_ready_for l.tried l.element (map (place_in n) l.indexes)) (drop l.demand-index l.demands) ≡ list_all (is_ready_for l.tried l.element (map (place_in n) l.indexes)) l.demands
