-- The edges of marks, one after another.
use Rattle.std.proofs.Common.{◌≡◌, ℕ, ◌+◌, ◌<◌, ◌≤◌, ◌⊎◌, inl, inr, List, [], ◌∷◌, ◌++◌, length, Some, slice_get, refl, sym, ap, subst, arith}
use Rattle.std.proofs.lemmas.Grind.{common_steps}
use Rattle.law_lists.proofs.Lists.{append_again}
use Rattle.graph_loops.specs.declared.edges.Edge.{Edge}
use Rattle.graph_loops.specs.declared.edges.Mark.{Mark}
use Rattle.graph_loops.specs.Walks.{Walk}
use Rattle.graph_loops.specs.Marks.{AreMarks, IsNext, IsFollowed, steps_in, steps_of}
use Rattle.graph_loops.proofs.Levels.{held}

-- the edges were followed up to a node
pub record IsFront (graph : List (List Edge)) (target : ℕ) (marks : List Mark) (node turn at : ℕ) (places : List ℕ) : Type 0 where
  pub near : 0 < steps_of marks at
  pub steps : steps_of marks at + turn ≡ steps_of marks node + 1
  pub many : length places + 1 ≡ turn
  pub walk : (rest : List ℕ) → Walk graph at rest target → Walk graph node (places ++ rest) target

one-more : (places : List ℕ) (place : ℕ) → length (places ++ place ∷ []) ≡ length places + 1
one-more places place = grind (arith, common_steps)

module _ (graph : List (List Edge)) (target most : ℕ) (marks : List Mark) (node : ℕ) (m : AreMarks graph target most marks) (positive : 0 < steps_of marks node) where
  pub front-begun : (places : List ℕ) → places ≡ [] → IsFront graph target marks node 1 node places
  front-begun places e = rw e (record { near = positive; steps = refl; many = refl; walk = λ rest w. w })

  module _ (turn at : ℕ) (places : List ℕ) (f : IsFront graph target marks node turn at places) (edge : Edge) (is : (mark : Mark) → slice_get marks at ≡ Some mark → edge ≡ mark.edge) where
    abbrev Nearer : Mark → Type 0
    Nearer mark = ((mark.steps ≡ 1) × (mark.edge.to ≡ target)) ⊎ ((0 < steps_of marks mark.edge.to) × (mark.steps ≡ steps_of marks mark.edge.to + 1))

    next : (mark : Mark) × (slice_get marks at ≡ Some mark) × (steps_of marks at ≡ mark.steps) × IsNext graph marks target at mark
    next =
        let h = held marks at f.near in
        let s : steps_of marks at ≡ h.0.steps = ap steps_in h.1 in
        let n = f.near in
        (h.0, h.1, s, (m.sound at h.0 h.1 (omega (arith, n, s))).1)

    pub front-more : turn < steps_of marks node → (new : List ℕ) → new ≡ places ++ edge.place ∷ [] → IsFront graph target marks node (turn + 1) edge.to new
    front-more few new e = rw e (made next.0 next.2 next.3 (is next.0 next.1) next.3.nearer)
      where
        made : (mark : Mark) → steps_of marks at ≡ mark.steps → IsNext graph marks target at mark → edge ≡ mark.edge → Nearer mark → IsFront graph target marks node (turn + 1) edge.to (places ++ edge.place ∷ [])
        made mark s n same (inl a) = let one = a.0 in let st = f.steps in absurd (omega (arith, few, s, one, st))
        made mark s n same (inr b) =
            let near = b.0 in
            let nearer = b.1 in
            let st = f.steps in
            let many = f.many in
            let longer = one-more places mark.edge.place in
            let g : IsFront graph target marks node (turn + 1) mark.edge.to (places ++ mark.edge.place ∷ []) = record {
              near = near;
              steps = omega (arith, s, nearer, st);
              many = omega (arith, many, longer);
              walk = λ rest w. subst (λ (l : List ℕ). Walk graph node l target) (sym (append_again places rest mark.edge.place)) (f.walk (mark.edge.place ∷ rest) (mark.edge, n.edge, refl, w));
            } in
            rw same g

    pub front-over : steps_of marks node ≤ turn → (new : List ℕ) → new ≡ places ++ edge.place ∷ [] → IsFollowed graph marks target node new
    front-over all new e = rw e (made next.0 next.2 next.3 (is next.0 next.1) next.3.nearer)
      where
        made : (mark : Mark) → steps_of marks at ≡ mark.steps → IsNext graph marks target at mark → edge ≡ mark.edge → Nearer mark → IsFollowed graph marks target node (places ++ edge.place ∷ [])
        made mark s n same (inl a) =
            let st = f.steps in
            let many = f.many in
            let one = a.0 in
            let longer = one-more places mark.edge.place in
            let g : IsFollowed graph marks target node (places ++ mark.edge.place ∷ []) = record { walk = f.walk (mark.edge.place ∷ []) (mark.edge, n.edge, refl, a.1); many = omega (arith, many, longer, st, s, one) } in
            rw same g
        made mark s n same (inr b) =
            let near = b.0 in
            let nearer = b.1 in
            let st = f.steps in
            absurd (omega (arith, all, s, near, nearer, st))
