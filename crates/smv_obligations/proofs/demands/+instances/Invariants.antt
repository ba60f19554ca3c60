use Rattle.std.proofs.Common.{◌≡◌, ◌*◌, ◌+◌, ◌-◌, [], ◌∷◌, ◌++◌, flat_map, drop, length}
use Rattle.smv_obligations.specs.Demands.{held_from}
use Rattle.smv_obligations.proofs.demands.+instances.Given as goal

abbrev pub decreases-put_instances : goal.decreases-put_instances
decreases-put_instances l = 2 * (length l.params.now - l.place)

abbrev pub decreases-put_turns : goal.decreases-put_turns
decreases-put_turns l = 2 * (length l.params.now - l.place) + 1

abbrev pub invariant-put_turns-loop-p : goal.invariant-put_turns-loop-p
invariant-put_turns-loop-p l =
    l.demands ++ flat_map (λ p. held_from l.part (l.front ++ p ∷ []) (drop l.place l.params) l.body) (drop l.p-index l.spots) ≡ l.initial.demands ++ flat_map (λ p. held_from l.part (l.front ++ p ∷ []) (drop l.place l.params) l.body) l.spots
