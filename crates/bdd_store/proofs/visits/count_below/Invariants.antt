use Rattle.std.proofs.Common.{◌≡◌, Bool, length, take}
use Rattle.std.specs.List.{flat_map, count_by}
use Rattle.bdd_store.specs.Graph.{below}
use Rattle.bdd_store.specs.Seen.{SeenIs, places_of}
use Rattle.bdd_store.proofs.visits.count_below.Given as goal

-- what lies below the roots so far was seen and counted
abbrev pub invariant-loop-root : goal.invariant-loop-root
invariant-loop-root l = record {
  room : length l.seen.items ≡ length l.nodes;
  counted : l.count ≡ count_by (λ (s : Bool). s) l.seen.items;
  is : SeenIs l.seen.items (flat_map (below l.nodes l.vars 0) (places_of (take l.root-index l.roots)));
}
