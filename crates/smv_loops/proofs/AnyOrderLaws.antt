-- Whether assignments hold a cycle does not depend on their order.
use Rattle.std.proofs.Common.{◌≡◌, ℕ, ◌<◌, ◌⊎◌, inl, inr, List, [], ◌∷◌, false, subst}
use Rattle.std.specs.List.{flat_map}
use Rattle.smv_core.specs.declared.flat.Cell.{Cell}
use Rattle.smv_core.specs.declared.flat.Family.{Family}
use Rattle.law_designs.specs.Reading.{Reading}
use Rattle.law_designs.specs.Loops.{Edge, hold_a_cycle, in_order}
use Rattle.law_designs.specs.LoopLaws.{AreFalling}
use Rattle.law_designs.proofs.Orders.{order}
use Rattle.law_designs.proofs.Descents.{no_cycle}
use Rattle.smv_loops.specs.Edges.{edges_at}
use Rattle.smv_loops.proofs.Members.{In, in-flat_map, in-flat_mapped}
use Rattle.smv_loops.proofs.SortLaws.{in-put}
use Rattle.smv_loops.proofs.CycleLaws.{falling-each}

pub in-ordered : (x : Reading) (xs : List Reading) → In x (in_order xs) → In x xs
in-ordered x [] i = i
in-ordered x (a ∷ xs) i = from (in-put a x (in_order xs) i) (in-ordered x xs)
  where
    from : (a ≡ x) ⊎ In x (in_order xs) → (In x (in_order xs) → In x xs) → In x (a ∷ xs)
    from (inl e) rest = inl e
    from (inr i) rest = inr (rest i)

pub falling-in : (rank : Cell → ℕ) (edges : List Edge) → AreFalling rank edges → (e : Edge) → In e edges → rank e.1 < rank e.0
falling-in rank [] f e i = absurd i
falling-in rank (x ∷ edges) f e (inl same) = subst (λ (y : Edge). rank y.1 < rank y.0) same f.0
falling-in rank (x ∷ edges) f e (inr i) = falling-in rank edges f.1 e i

pub ordered-none : (families : List Family) (readings : List Reading) → hold_a_cycle (flat_map (edges_at families) readings) ≡ false → hold_a_cycle (flat_map (edges_at families) (in_order readings)) ≡ false
ordered-none families readings h =
    let r = order (flat_map (edges_at families) readings) h in
    no_cycle (flat_map (edges_at families) (in_order readings)) r.0
    (falling-each r.0 (flat_map (edges_at families) (in_order readings)) (λ e i. falling-in r.0 (flat_map (edges_at families) readings) r.1 e (moved e (in-flat_mapped (edges_at families) e (in_order readings) i))))
  where
    moved : (e : Edge) → (x : Reading) × In x (in_order readings) × In e (edges_at families x) → In e (flat_map (edges_at families) readings)
    moved e m = in-flat_map (edges_at families) m.0 e readings (in-ordered m.0 readings m.1) m.2
