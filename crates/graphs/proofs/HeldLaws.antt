-- Graphs that are held in vectors.
use Rattle.std.proofs.Common.{◌≡◌, ℕ, ◌<◌, List, [], length, get_or}
use Rattle.std.specs.Global.{Vec}
use Rattle.std.proofs.lemmas.List.{get_or-map, length-map}
use Rattle.graphs.specs.Graph.{next, lists}

pub next_held : (graph : List (Vec ℕ)) (node : ℕ) (d : Vec ℕ) → node < length graph → next (lists graph) node ≡ (get_or graph node d).items
next_held graph node d h = get_or-map (λ (edges : Vec ℕ). edges.items) graph node d [] h

pub length_held : (graph : List (Vec ℕ)) → length (lists graph) ≡ length graph
length_held graph = simp length-map
