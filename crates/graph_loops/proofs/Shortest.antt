-- Shortest loops.
use Rattle.std.proofs.Common.{◌≡◌, ◌≢◌, ℕ, ◌+◌, ◌<◌, ◌≤◌, ◌⊎◌, inl, inr, List, [], ◌∷◌, length, get_or, Some, slice_get, Bool, true, false, cond, nat_lt, refl, sym, ap, subst, ◌∙◌, arith}
use Rattle.std.proofs.lemmas.Bool.{cases_lt}
use Rattle.std.proofs.lemmas.Grind.{get_or_default_zero}
use Rattle.graph_loops.specs.declared.edges.Edge.{Edge}
use Rattle.graph_loops.specs.declared.edges.Mark.{Mark}
use Rattle.graph_loops.specs.Walks.{Walk, IsLoop, IsLoopOf, IsShortest, shorter}
use Rattle.graph_loops.specs.Marks.{steps_in, steps_of, AreMarks, IsFollowed}
use Rattle.graph_loops.proofs.Levels.{level-at, held}

-- ---- what marks say of all walks

module _ (graph : List (List Edge)) (target most : ℕ) (marks : List Mark) (m : AreMarks graph target most marks) where
  -- a mark is at most the length of each walk that is no longer than those that are known
  no-longer : (node : ℕ) (places : List ℕ) → Walk graph node places target → 0 < length places → length places ≤ most → (0 < steps_of marks node) × (steps_of marks node ≤ length places)
  no-longer node [] w p l = absurd (omega (arith, p))
  no-longer node (place ∷ []) w p l = m.closed node 0 w.0 w.1 (omega (arith, l)) (level-at marks target 0 w.0.to (inl (refl, w.3)))
  no-longer node (place ∷ next ∷ places) w p l =
      let r = no-longer w.0.to (next ∷ places) w.3 (omega arith) (omega (arith, l)) in
      let some = r.0 in
      let few = r.1 in
      let c = m.closed node (steps_of marks w.0.to) w.0 w.1 (omega (arith, few, l)) (level-at marks target (steps_of marks w.0.to) w.0.to (inr (some, refl))) in
      let c1 = c.1 in
      (c.0, omega (arith, c1, few))

  -- where no node is at the last level, each node that leads to the target has a mark
  module _ (last : (node : ℕ) (mark : Mark) → slice_get marks node ≡ Some mark → mark.steps ≢ most) (some : 0 < most) where
    each-marked : (node : ℕ) (places : List ℕ) → Walk graph node places target → 0 < length places → 0 < steps_of marks node
    each-marked node [] w p = absurd (omega (arith, p))
    each-marked node (place ∷ []) w p = (m.closed node 0 w.0 w.1 some (level-at marks target 0 w.0.to (inl (refl, w.3)))).0
    each-marked node (place ∷ next ∷ places) w p =
        let r = each-marked w.0.to (next ∷ places) w.3 (omega arith) in
        let h = held marks w.0.to r in
        let s : steps_of marks w.0.to ≡ h.0.steps = ap steps_in h.1 in
        let few = (m.sound w.0.to h.0 h.1 (omega (arith, r, s))).0 in
        let other = last w.0.to h.0 h.1 in
        (m.closed node (steps_of marks w.0.to) w.0 w.1 (below h.0 s few other) (level-at marks target (steps_of marks w.0.to) w.0.to (inr (r, refl)))).0
      where
        below : (mark : Mark) → steps_of marks w.0.to ≡ mark.steps → mark.steps ≤ most → mark.steps ≢ most → steps_of marks w.0.to < most
        below mark s few other = elim (cases_lt mark.steps most) [
          | inl l ↦ omega (arith, s, l)
          | inr l ↦ absurd (other (omega (arith, few, l)))
        ]

    pub no-loop : steps_of marks target ≡ 0 → (places : List ℕ) → places ≡ [] → IsShortest (IsLoop graph target) places
    no-loop z places e = rw e none
      where
        none : (other : List ℕ) → IsLoop graph target other → ⊥
        none other w = let l = each-marked target other w.1 w.0 in omega (arith, l, z)

  pub found-shortest : 0 < steps_of marks target → (places : List ℕ) → IsFollowed graph marks target target places → IsShortest (IsLoop graph target) places
  found-shortest l places f = made places (let many = f.many in omega (arith, many, l)) f.walk f.many
    where
      few : steps_of marks target ≤ most
      few =
          let h = held marks target l in
          let s : steps_of marks target ≡ h.0.steps = ap steps_in h.1 in
          let k = (m.sound target h.0 h.1 (omega (arith, l, s))).0 in
          omega (arith, k, s)

      others : (other : List ℕ) → IsLoop graph target other → steps_of marks target ≤ length other
      others other w = elim (cases_lt most (length other)) [
        | inl long ↦ let k = few in omega (arith, k, long)
        | inr short ↦ (no-longer target other w.1 w.0 short).1
      ]

      made : (places : List ℕ) → 0 < length places → Walk graph target places target → length places ≡ steps_of marks target → IsShortest (IsLoop graph target) places
      made [] p w e = absurd (omega (arith, p))
      made (place ∷ places) p w e = ((p, w), λ other o. let k = others other o in omega (arith, k, e))

-- ---- the shortest of several

lt-is : (m n : ℕ) → nat_lt m n ≡ true → m < n
lt-is m n e = grind arith

le-is : (m n : ℕ) → nat_lt m n ≡ false → n ≤ m
le-is m n e = grind arith

pub shortest-same : (P R : List ℕ → Type 0) (best : List ℕ) → IsShortest P best → ((x : List ℕ) → P x → R x) → ((x : List ℕ) → R x → P x) → IsShortest R best
shortest-same P R [] p to from = λ other o. p other (from other o)
shortest-same P R (first ∷ best) p to from = (to (first ∷ best) p.0, λ other o. p.1 other (from other o))

pub shortest-either : (P Q R : List ℕ → Type 0) (best found : List ℕ) → IsShortest P best → IsShortest Q found → ((x : List ℕ) → P x → R x) → ((x : List ℕ) → Q x → R x) → ((x : List ℕ) → R x → P x ⊎ Q x) → IsShortest R (shorter best found)
shortest-either P Q R [] [] p q of_p of_q from = λ other o. elim (from other o) [ inl a ↦ p other a | inr b ↦ q other b ]
shortest-either P Q R (first ∷ best) [] p q of_p of_q from = (of_p (first ∷ best) p.0, λ other o. elim (from other o) [ inl a ↦ p.1 other a | inr b ↦ absurd (q other b) ])
shortest-either P Q R [] (place ∷ places) p q of_p of_q from = (of_q (place ∷ places) q.0, λ other o. elim (from other o) [ inl a ↦ absurd (p other a) | inr b ↦ q.1 other b ])
shortest-either P Q R (first ∷ best) (place ∷ places) p q of_p of_q from = at (nat_lt (length (place ∷ places)) (length (first ∷ best))) refl
  where
    at : (b : Bool) → nat_lt (length (place ∷ places)) (length (first ∷ best)) ≡ b → IsShortest R (cond b (place ∷ places) (first ∷ best))
    at true e =
        let less = lt-is (length (place ∷ places)) (length (first ∷ best)) e in
        (of_q (place ∷ places) q.0, λ other o. elim (from other o) [ inl a ↦ let k = p.1 other a in omega (arith, k, less) | inr b ↦ q.1 other b ])
    at false e =
        let most = le-is (length (place ∷ places)) (length (first ∷ best)) e in
        (of_p (first ∷ best) p.0, λ other o. elim (from other o) [ inl a ↦ p.1 other a | inr b ↦ let k = q.1 other b in omega (arith, k, most) ])

module _ (graph : List (List Edge)) (targets : List ℕ) where
  -- a loop through one of the first of these nodes
  abbrev pub IsAmong : ℕ → List ℕ → Type 0
  IsAmong count places = (j : ℕ) × (j < count) × IsLoop graph (get_or targets j 0) places

  pub among-none : (places : List ℕ) → places ≡ [] → IsShortest (IsAmong 0) places
  among-none places e = rw e none
    where
      none : (other : List ℕ) → IsAmong 0 other → ⊥
      none other o = let l = o.1 in omega (arith, l)

  pub among-more : (count : ℕ) (best found new : List ℕ) → IsShortest (IsAmong count) best → IsShortest (IsLoop graph (get_or targets count 0)) found → new ≡ shorter best found → IsShortest (IsAmong (count + 1)) new
  among-more count best found new b f e =
      rw e (shortest-either (IsAmong count) (IsLoop graph (get_or targets count 0)) (IsAmong (count + 1)) best found b f (λ x o. let l = o.1 in (o.0, omega (arith, l), o.2)) (λ x o. (count, omega arith, o)) split)
    where
      split : (x : List ℕ) → IsAmong (count + 1) x → IsAmong count x ⊎ IsLoop graph (get_or targets count 0) x
      split x o = elim (cases_lt o.0 count) [
        | inl l ↦ inl (o.0, l, o.2)
        | inr l ↦
            let k = o.1 in
            let same : o.0 ≡ count = omega (arith, l, k) in
            inr (subst (λ (j : ℕ). IsLoop graph (get_or targets j 0) x) same o.2)
      ]

  pub among-all : (count : ℕ) (best : List ℕ) → count ≡ length targets → IsShortest (IsAmong count) best → IsShortest (IsLoopOf graph targets) best
  among-all count best n b = shortest-same (IsAmong count) (IsLoopOf graph targets) best b to from
    where
      to : (x : List ℕ) → IsAmong count x → IsLoopOf graph targets x
      to x o = let l = o.1 in let inside : o.0 < length targets = omega (arith, l, n) in (get_or targets o.0 0, (o.0, inside, get_or_default_zero targets o.0 (get_or targets o.0 0) inside), o.2)

      from : (x : List ℕ) → IsLoopOf graph targets x → IsAmong count x
      from x o =
          let k = o.1.0 in
          let l = o.1.1 in
          let same : o.0 ≡ get_or targets k 0 = sym o.1.2 ∙ get_or_default_zero targets k o.0 l in
          (k, omega (arith, l, n), subst (λ (t : ℕ). IsLoop graph t x) same o.2)
