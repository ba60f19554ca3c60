-- What ranks say of a graph.
use Rattle.std.proofs.Common.{◌≡◌, ℕ, ◌<◌, ◌≤◌, false, List, [], length, ap, arith}
use Rattle.std.specs.Global.{Vec}
use Rattle.std.proofs.lemmas.List.{get_or_past}
use Rattle.graphs.specs.Graph.{next, lists, reaches}
use Rattle.graphs.specs.Ranks.{rank, IsNoneAbove, Descends}
use Rattle.graphs.proofs.ReachLaws.{reaches-closed}
use Rattle.graphs.proofs.HeldLaws.{length_held}

-- where no edge raises the rank, a node leads to none of a higher rank
pub none_higher : (graph : List (List ℕ)) (ranks : List ℕ) (n target start : ℕ) → Descends graph ranks → rank ranks start < rank ranks target → reaches graph n target start ≡ false
none_higher graph ranks n target start falls below =
    reaches-closed graph (λ x. rank ranks x < rank ranks target) target (λ x h e. not_same x h e) (λ x h i b. omega (arith, falls x i b)) n start below
  where
    not_same : (x : ℕ) → rank ranks x < rank ranks target → x ≡ target → ⊥
    not_same x h e = let same : rank ranks x ≡ rank ranks target = ap (rank ranks) e in absurd (omega arith)

-- without ranks no edge raises any
pub no_ranks : (graph : List (List ℕ)) → Descends graph []
no_ranks graph node i b = omega arith

-- past the last node there is no edge
pub none_past : (graph : List (Vec ℕ)) (ranks : List ℕ) (node : ℕ) → length graph ≤ node → IsNoneAbove ranks (rank ranks node) (next (lists graph) node)
none_past graph ranks node h i b =
    let none : next (lists graph) node ≡ [] = get_or_past (lists graph) node [] (omega (arith, length_held graph)) in
    let few : length (next (lists graph) node) ≡ 0 = ap length none in
    absurd (omega arith)
