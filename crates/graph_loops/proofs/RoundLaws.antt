-- What a round of marks leaves.
use Rattle.std.proofs.Common.{◌≡◌, ℕ, zero, suc, ◌+◌, ◌<◌, ◌≤◌, ◌⊎◌, inl, inr, List, [], ◌∷◌, ◌++◌, length, Some, slice_get, true, refl, sym, ap, subst, ◌∙◌, arith}
use Rattle.std.specs.List.{Contains}
use Rattle.std.proofs.lemmas.Bool.{cases_lt}
use Rattle.std.proofs.lemmas.Option.{slice_get_within}
use Rattle.std.proofs.lemmas.Grind.{common_steps}
use Rattle.law_lists.proofs.Booleans.{clash}
use Rattle.law_lists.proofs.Options.{some_is}
use Rattle.law_lists.proofs.Places.{get_there}
use Rattle.graph_loops.specs.declared.edges.Edge.{Edge}
use Rattle.graph_loops.specs.declared.edges.Mark.{Mark}
use Rattle.graph_loops.specs.Walks.{leaving}
use Rattle.graph_loops.specs.Marks.{steps_in, steps_of, is_level, IsNext, AreMarks, IsMarked, IsRound}
use Rattle.graph_loops.proofs.Levels.{IsAt, at-level, level-at, held, within}

module _ (graph : List (List Edge)) (target most : ℕ) (marks new : List Mark) (old : AreMarks graph target most marks) (r : IsRound graph marks target most new) where
  abbrev Turned : ℕ → Mark → Mark → Type 0
  Turned node = IsMarked (leaving graph node) marks target most

  -- the mark of a node before
  both : (node : ℕ) (mark : Mark) → slice_get new node ≡ Some mark → (o : Mark) × (slice_get marks node ≡ Some o) × Turned node o mark
  both node mark e =
      let l = slice_get_within new node mark e in
      let room = r.room in
      let o = get_there marks node (omega (arith, l, room)) in
      (o.0, o.1, r.each node o.0 mark o.1 e)

  same-steps : {o mark : Mark} → mark ≡ o → mark.steps ≡ o.steps
  same-steps e = ap (λ (m : Mark). m.steps) e

  -- what was marked stays
  stays : (node : ℕ) → 0 < steps_of marks node → steps_of new node ≡ steps_of marks node
  stays node l =
      let o = held marks node l in
      let inside = slice_get_within marks node o.0 o.1 in
      let room = r.room in
      let n = get_there new node (omega (arith, inside, room)) in
      let s : steps_of marks node ≡ o.0.steps = ap steps_in o.1 in
      ap steps_in n.1 ∙ same o.0 n.0 (r.each node o.0 n.0 o.1 n.1) (omega (arith, l, s)) ∙ sym s
    where
      same : (o n : Mark) → Turned node o n → 0 < o.steps → n.steps ≡ o.steps
      same o n (inl k) p = same-steps k.1
      same o n (inr (inl f)) p = let z = f.0 in absurd (omega (arith, z, p))
      same o n (inr (inr f)) p = same-steps f.1

  next-stays : (node : ℕ) (mark : Mark) → IsNext graph marks target node mark → IsNext graph new target node mark
  next-stays node mark n = record {
    edge = n.edge;
    nearer = nearer n.nearer;
  }
    where
      nearer : ((mark.steps ≡ 1) × (mark.edge.to ≡ target)) ⊎ ((0 < steps_of marks mark.edge.to) × (mark.steps ≡ steps_of marks mark.edge.to + 1)) → ((mark.steps ≡ 1) × (mark.edge.to ≡ target)) ⊎ ((0 < steps_of new mark.edge.to) × (mark.steps ≡ steps_of new mark.edge.to + 1))
      nearer (inl a) = inl a
      nearer (inr b) = let q = stays mark.edge.to b.0 in let l = b.0 in let s = b.1 in inr (omega (arith, q, l), omega (arith, q, s))

  sound : (node : ℕ) (mark : Mark) → slice_get new node ≡ Some mark → 0 < mark.steps → (mark.steps ≤ most + 1) × IsNext graph new target node mark
  sound node mark e p = let b = both node mark e in from b.0 b.1 b.2
    where
      from : (o : Mark) → slice_get marks node ≡ Some o → Turned node o mark → (mark.steps ≤ most + 1) × IsNext graph new target node mark
      from o is (inl k) =
          let s = old.sound node o is k.0 in
          let few = s.0 in
          let g : (o.steps ≤ most + 1) × IsNext graph new target node o = (omega (arith, few), next-stays node o s.1) in
          rw k.1 g
      from o is (inr (inl f)) =
          let st = f.1 in
          (omega (arith, st), record { edge = f.2; nearer = nearer (at-level marks target most mark.edge.to f.3) })
        where
          nearer : IsAt marks target most mark.edge.to → ((mark.steps ≡ 1) × (mark.edge.to ≡ target)) ⊎ ((0 < steps_of new mark.edge.to) × (mark.steps ≡ steps_of new mark.edge.to + 1))
          nearer (inl a) = let z = a.0 in let st = f.1 in inl (omega (arith, z, st), a.1)
          nearer (inr b) =
              let l = b.0 in
              let s = b.1 in
              let st = f.1 in
              let q = stays mark.edge.to (omega (arith, l, s)) in
              inr (omega (arith, q, l, s), omega (arith, q, s, st))
      from o is (inr (inr f)) = let z = f.0 in let s = same-steps f.1 in absurd (omega (arith, p, z, s))

  -- a level so far is that before
  lower : (node steps : ℕ) → steps ≤ most → IsAt new target steps node → IsAt marks target steps node
  lower node steps few (inl a) = inl a
  lower node steps few (inr b) =
      let l = b.0 in
      let s = b.1 in
      let n = held new node (omega (arith, l, s)) in
      let o = both node n.0 n.1 in
      let ns : steps_of new node ≡ n.0.steps = ap steps_in n.1 in
      let os : steps_of marks node ≡ o.0.steps = ap steps_in o.1 in
      inr (l, from o.0 n.0 o.2 ns os)
    where
      from : (o n : Mark) → Turned node o n → steps_of new node ≡ n.steps → steps_of marks node ≡ o.steps → steps_of marks node ≡ steps
      from o n (inl k) ns os = let q = same-steps k.1 in let s = b.1 in omega (arith, q, s, ns, os)
      from o n (inr (inl f)) ns os = let st = f.1 in let s = b.1 in absurd (omega (arith, st, s, ns, few))
      from o n (inr (inr f)) ns os = let z = f.0 in let q = same-steps f.1 in let s = b.1 in let l = b.0 in absurd (omega (arith, z, q, s, l, ns))

  closed : (node steps : ℕ) (e : Edge) → Contains (leaving graph node) e → steps < most + 1 → is_level new target steps e.to ≡ true → (0 < steps_of new node) × (steps_of new node ≤ steps + 1)
  closed node steps e c few h =
      let w = within graph node e c in
      let room = r.room in
      let old_room = old.room in
      let n = get_there new node (omega (arith, w, room, old_room)) in
      let o = both node n.0 n.1 in
      let ns : steps_of new node ≡ n.0.steps = ap steps_in n.1 in
      let os : steps_of marks node ≡ o.0.steps = ap steps_in o.1 in
      from o.0 n.0 o.1 o.2 ns os (cases_lt steps most)
    where
      before : is_level marks target steps e.to ≡ true
      before = level-at marks target steps e.to (lower e.to steps (omega (arith, few)) (at-level new target steps e.to h))

      from : (o n : Mark) → slice_get marks node ≡ Some o → Turned node o n → steps_of new node ≡ n.steps → steps_of marks node ≡ o.steps → (steps < most) ⊎ (most ≤ steps) → (0 < steps_of new node) × (steps_of new node ≤ steps + 1)
      from o n is (inl k) ns os (inl below) =
          let q = same-steps k.1 in
          let l = old.closed node steps e c below before in
          let l0 = l.0 in
          let l1 = l.1 in
          (omega (arith, q, l0, ns, os), omega (arith, q, l1, ns, os))
      from o n is (inl k) ns os (inr above) =
          let q = same-steps k.1 in
          let p = k.0 in
          let l = (old.sound node o is k.0).0 in
          (omega (arith, q, p, ns), omega (arith, q, l, ns, above))
      from o n is (inr (inl f)) ns os (inl below) =
          let l = (old.closed node steps e c below before).0 in
          let z = f.0 in
          absurd (omega (arith, l, z, os))
      from o n is (inr (inl f)) ns os (inr above) =
          let st = f.1 in
          (omega (arith, st, ns), omega (arith, st, ns, above))
      from o n is (inr (inr f)) ns os (inl below) =
          let l = (old.closed node steps e c below before).0 in
          let z = f.0 in
          absurd (omega (arith, l, z, os))
      from o n is (inr (inr f)) ns os (inr above) =
          let same : steps ≡ most = omega (arith, few, above) in
          absurd (clash (sym (ap (λ (k : ℕ). is_level marks target k e.to) same) ∙ before) (f.2 e c))

  pub next-marks : AreMarks graph target (most + 1) new
  next-marks = record { room = r.room ∙ old.room; sound = sound; closed = closed }

-- ---- node by node

got-push : (xs : List Mark) (x : Mark) (k : ℕ) (m : Mark) → slice_get (xs ++ x ∷ []) k ≡ Some m → (slice_get xs k ≡ Some m) ⊎ ((k ≡ length xs) × (x ≡ m))
got-push [] x zero m h = inr (refl, some_is h)
got-push [] x (suc k) m h = absurd (cc)
got-push (y ∷ ys) x zero m h = inl h
got-push (y ∷ ys) x (suc k) m h = elim (got-push ys x k m h) [ inl a ↦ inl a | inr b ↦ let e = b.0 in inr (omega (arith, e), b.1) ]

module _ (graph : List (List Edge)) (marks : List Mark) (target most : ℕ) where
  -- the marks so far
  pub record AreTurned (count : ℕ) (items : List Mark) : Type 0 where
    pub room : length items ≡ count
    pub each : (node : ℕ) (old mark : Mark) → slice_get marks node ≡ Some old → slice_get items node ≡ Some mark → IsMarked (leaving graph node) marks target most old mark

  pub turned-more : (count : ℕ) (items new : List Mark) (mark : Mark) → AreTurned count items → ((old : Mark) → slice_get marks count ≡ Some old → IsMarked (leaving graph count) marks target most old mark) → new ≡ items ++ mark ∷ [] → AreTurned (count + 1) new
  turned-more count items new mark t next e = rw e (record {
    room = let room = t.room in longer room;
    each = λ node old m is got. at node old m is (got-push items mark node m got);
  })
    where
      longer : length items ≡ count → length (items ++ mark ∷ []) ≡ count + 1
      longer room = grind (arith, common_steps)

      at : (node : ℕ) (old m : Mark) → slice_get marks node ≡ Some old → (slice_get items node ≡ Some m) ⊎ ((node ≡ length items) × (mark ≡ m)) → IsMarked (leaving graph node) marks target most old m
      at node old m is (inl a) = t.each node old m is a
      at node old m is (inr b) =
          let same : node ≡ count = b.0 ∙ t.room in
          subst (IsMarked (leaving graph node) marks target most old) b.1 (subst (λ (k : ℕ). IsMarked (leaving graph k) marks target most old mark) (sym same) (next old (sym (ap (slice_get marks) same) ∙ is)))

  pub turned-all : (count : ℕ) (items : List Mark) → count ≡ length marks → AreTurned count items → IsRound graph marks target most items
  turned-all count items e t = record { room = t.room ∙ e; each = t.each }
