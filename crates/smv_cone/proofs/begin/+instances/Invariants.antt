use Rattle.std.proofs.Common.{◌≡◌, ◌*◌, ◌+◌, ◌-◌, [], ◌∷◌, ◌++◌, drop, length}
use Rattle.std.specs.List.{flat_map}
use Rattle.smv_elements.specs.Elements.{put_all}
use Rattle.smv_cone.specs.Begins.{read_instances}
use Rattle.smv_cone.proofs.begin.+instances.Given as goal

abbrev pub decreases-read_instances : goal.decreases-read_instances
decreases-read_instances l = 2 * (length l.params.now - l.place)

abbrev pub decreases-read_turns : goal.decreases-read_turns
decreases-read_turns l = 2 * (length l.params.now - l.place) + 1

abbrev pub invariant-read_turns-loop-p : goal.invariant-read_turns-loop-p
invariant-read_turns-loop-p l =
    put_all l.found (flat_map (λ p. read_instances l.view (l.front ++ p ∷ []) (drop l.place l.params) l.body) (drop l.p-index l.spots)) ≡ put_all l.initial.found (flat_map (λ p. read_instances l.view (l.front ++ p ∷ []) (drop l.place l.params) l.body) l.spots)
