-- What marks say of levels.
use Rattle.std.proofs.Common.{◌≡◌, ℕ, zero, suc, ◌<◌, ◌⊎◌, inl, inr, List, [], length, Option, Some, None, slice_get, Bool, true, false, cond, nat_eq, refl, sym, ap, ◌∙◌, arith}
use Rattle.std.specs.List.{Contains}
use Rattle.std.proofs.lemmas.Option.{slice_get_within}
use Rattle.graph_loops.specs.declared.edges.Edge.{Edge}
use Rattle.graph_loops.specs.declared.edges.Mark.{Mark}
use Rattle.graph_loops.specs.Walks.{edges_in, leaving}
use Rattle.graph_loops.specs.Marks.{steps_in, steps_of, is_level}

zero_or : (n : ℕ) → (n ≡ 0) ⊎ (0 < n)
zero_or zero = inl refl
zero_or (suc n) = inr (omega arith)

is-zero : (n : ℕ) → n ≡ 0 → nat_eq n 0 ≡ true
is-zero n e = grind arith

is-none : (n : ℕ) → 0 < n → nat_eq n 0 ≡ false
is-none n l = grind arith

eq-is : (m n : ℕ) → nat_eq m n ≡ true → m ≡ n
eq-is m n e = grind arith

eq-true : (m n : ℕ) → m ≡ n → nat_eq m n ≡ true
eq-true m n e = grind arith

-- a node is at a level
abbrev pub IsAt : List Mark → ℕ → ℕ → ℕ → Type 0
IsAt marks target steps node = ((steps ≡ 0) × (node ≡ target)) ⊎ ((0 < steps) × (steps_of marks node ≡ steps))

module _ (marks : List Mark) (target steps node : ℕ) where
  abbrev by : Bool → Bool
  by b = cond b (nat_eq node target) (nat_eq (steps_of marks node) steps)

  pub at-level : is_level marks target steps node ≡ true → IsAt marks target steps node
  at-level h = from (zero_or steps)
    where
      from : (steps ≡ 0) ⊎ (0 < steps) → IsAt marks target steps node
      from (inl z) = inl (z, eq-is node target (sym (ap by (is-zero steps z)) ∙ h))
      from (inr l) = inr (l, eq-is (steps_of marks node) steps (sym (ap by (is-none steps l)) ∙ h))

  pub level-at : IsAt marks target steps node → is_level marks target steps node ≡ true
  level-at (inl p) = ap by (is-zero steps p.0) ∙ eq-true node target p.1
  level-at (inr p) = ap by (is-none steps p.0) ∙ eq-true (steps_of marks node) steps p.1

-- the mark of a node that has one
pub held : (marks : List Mark) (node : ℕ) → 0 < steps_of marks node → (mark : Mark) × (slice_get marks node ≡ Some mark)
held marks node l = at (slice_get marks node) refl l
  where
    at : (o : Option Mark) → slice_get marks node ≡ o → 0 < steps_in o → (mark : Mark) × (slice_get marks node ≡ Some mark)
    at None e p = absurd (omega (arith, p))
    at (Some mark) e p = (mark, e)

-- only nodes have edges
pub within : (graph : List (List Edge)) (node : ℕ) (e : Edge) → Contains (leaving graph node) e → node < length graph
within graph node e c = at (slice_get graph node) refl c
  where
    none : Contains [] e → ⊥
    none h = let l = h.1 in omega (arith, l)

    at : (o : Option (List Edge)) → slice_get graph node ≡ o → Contains (edges_in o) e → node < length graph
    at None is h = absurd (none h)
    at (Some edges) is h = slice_get_within graph node edges is
