-- A walk can be made free of nodes that it passes twice. So it need be no longer than there are nodes, and what a walk leads to is reached over so many edges.
use Rattle.std.proofs.Common.{◌≡◌, ℕ, zero, suc, ◌+◌, ◌-◌, ◌<◌, ◌↔◌, inl, inr, Bool, true, false, ◌||◌, List, [], ◌∷◌, length, get_or, refl, sym, subst, ◌∙◌, arith}
use Rattle.std.specs.Prelude.{nat_eq}
use Rattle.std.specs.Cmp.{both_ways}
use Rattle.std.specs.List.{AllByRecursion, Contains, IsDistinct, list_any}
use Rattle.std.proofs.lemmas.Bool.{false≢true, cases_Bool, or_cases}
use Rattle.std.proofs.lemmas.List.Folds.{Any-from_list_any, list_any_at}
use Rattle.std.proofs.lemmas.Map.Keys.{IsDistinct-cons, IsDistinct-tail}
use Rattle.std.proofs.lemmas.Map.Steps.{length-le_from_distinct_below}
use Rattle.graph_search.specs.Walks.{Walk, here, step}
use Rattle.graph_search.specs.Searches.{IsSeen}
use Rattle.graphs.specs.Graph.{next, reaches, IsGraph}
use Rattle.graphs.proofs.ReachLaws.{or_right, nat_eq_is, reaches-same, reaches-at_most}

-- a walk from a node to another, over these nodes
abbrev Path : (ℕ → List ℕ) → ℕ → List ℕ → ℕ → Type 0
Path after x [] z = x ≡ z
Path after x (y ∷ ys) z = Contains (after x) y × Path after y ys z

-- one that passes no node twice
abbrev Simple : (ℕ → List ℕ) → ℕ → ℕ → Type 0
Simple after x z = (ys : List ℕ) × Path after x ys z × IsDistinct nat_eq (x ∷ ys)

first_none : (a b : Bool) → a || b ≡ false → a ≡ false
first_none true b e = absurd (false≢true (sym e))
first_none false b e = refl

then_none : (a b : Bool) → a || b ≡ false → b ≡ false
then_none true b e = absurd (false≢true (sym e))
then_none false b e = e

none_equal : (x : ℕ) (xs : List ℕ) → list_any (nat_eq x) xs ≡ false → AllByRecursion (λ y. nat_eq x y ≡ false) xs
none_equal x [] e = tt
none_equal x (y ∷ ys) e = (first_none (nat_eq x y) (list_any (nat_eq x) ys) e, none_equal x ys (then_none (nat_eq x y) (list_any (nat_eq x) ys) e))

one_distinct : (x : ℕ) → IsDistinct nat_eq (x ∷ [])
unfolding IsDistinct
one_distinct x = (tt, tt)

module _ (after : ℕ → List ℕ) where
  -- what is left of a path from a node that it passes
  rest : (x y : ℕ) (ys : List ℕ) (z : ℕ) → Path after y ys z → IsDistinct nat_eq (y ∷ ys) → list_any (nat_eq x) (y ∷ ys) ≡ true → Simple after x z
  rest x y [] z p d e = elim (or_cases (nat_eq x y) false e) [
    | inl same ↦ subst (λ w. Simple after w z) (sym (nat_eq_is x y same)) ([], p, d)
    | inr none ↦ absurd (false≢true none)
  ]
  rest x y (w ∷ ws) z p d e = elim (or_cases (nat_eq x y) (list_any (nat_eq x) (w ∷ ws)) e) [
    | inl same ↦ subst (λ v. Simple after v z) (sym (nat_eq_is x y same)) (w ∷ ws, p, d)
    | inr later ↦ rest x w ws z p.1 (IsDistinct-tail nat_eq y (w ∷ ws) d) later
  ]

  -- one node in front: the path begins there, or where it passes that node
  in_front : (x y z : ℕ) → Contains (after x) y → Simple after y z → Simple after x z
  in_front x y z c s = elim (cases_Bool (list_any (nat_eq x) (y ∷ s.0))) [
    | inl passed ↦ rest x y s.0 z s.1 s.2 passed
    | inr other ↦ (y ∷ s.0, (c, s.1), IsDistinct-cons nat_eq x (y ∷ s.0) (none_equal x (y ∷ s.0) other) s.2)
  ]

  simple : {x z : ℕ} → Walk after x z → Simple after x z
  simple {x = x} here = ([], refl, one_distinct x)
  simple (step {x = x} {y = y} {z = z} c w) = in_front x y z c (simple w)

  module _ (n : ℕ) (closed : (x y : ℕ) → Contains (after x) y → y < n) where
    within : (x : ℕ) (ys : List ℕ) (z : ℕ) → x < n → Path after x ys z → (q : ℕ) → list_any (nat_eq q) (x ∷ ys) ≡ true → q < n
    within x [] z b p q e = elim (or_cases (nat_eq q x) false e) [
      | inl same ↦ subst (λ k. k < n) (sym (nat_eq_is q x same)) b
      | inr none ↦ absurd (false≢true none)
    ]
    within x (y ∷ ys) z b p q e = elim (or_cases (nat_eq q x) (list_any (nat_eq q) (y ∷ ys)) e) [
      | inl same ↦ subst (λ k. k < n) (sym (nat_eq_is q x same)) b
      | inr later ↦ within y ys z (closed x y p.0) p.1 q later
    ]

    -- fewer edges than there are nodes
    few : (x z : ℕ) → x < n → (s : Simple after x z) → length s.0 < n
    few x z b s = let most = length-le_from_distinct_below (x ∷ s.0) n s.2 (within x s.0 z b s.1) in omega (arith, most)

  -- walks where each node is followed by the same ones
  pub followed : (other : ℕ → List ℕ) → ((x : ℕ) → after x ≡ other x) → {x z : ℕ} → Walk after x z → Walk other x z
  followed other same here = here
  followed other same (step {x = x} {y = y} c w) = step (subst (λ l. Contains l y) (same x) c) (followed other same w)

module _ (graph : List (List ℕ)) where
  along : (x : ℕ) (ys : List ℕ) (z : ℕ) → Path (next graph) x ys z → reaches graph (length ys) z x ≡ true
  along x [] z p = subst (λ t. reaches graph 0 t x ≡ true) p (reaches-same graph 0 x)
  along x (y ∷ ys) z p =
      let c = p.0 in
      or_right (nat_eq x z) (list_any (reaches graph (length ys) z) (next graph x))
      (list_any_at (reaches graph (length ys) z) (next graph x) c.0 y c.1 (subst (λ k. reaches graph (length ys) z k ≡ true) (sym c.2) (along y ys z p.1)))

  -- each edge leads to a node, in the words of `graph_search`
  pub edge_within : IsGraph graph → (x y : ℕ) → Contains (next graph x) y → y < length graph
  edge_within is x y c = subst (λ k. k < length graph) (same (next graph x) c.0 y c.1 ∙ c.2) (is x c.0 c.1)
    where
      same : (xs : List ℕ) (k y : ℕ) → k < length xs → get_or xs k 0 ≡ get_or xs k y
      same [] k y l = absurd (omega arith)
      same (x ∷ xs) zero y l = refl
      same (x ∷ xs) (suc k) y l = same xs k y (omega arith)

  -- a walk reaches over at most as many edges as there are nodes
  reaches-from_Walk : (x z : ℕ) → IsGraph graph → x < length graph → Walk (next graph) x z → reaches graph (length graph) z x ≡ true
  reaches-from_Walk x z is b w =
      let s = simple (next graph) w in
      let short = few (next graph) (length graph) (edge_within is) x z b s in
      let all : (length graph - length s.0) + length s.0 ≡ length graph = omega (arith, short) in
      subst (λ n. reaches graph n z x ≡ true) all (reaches-at_most graph (length graph - length s.0) (length s.0) z x (along x s.0 z s.1))

  Walk-from_reaches : (n x z : ℕ) → reaches graph n z x ≡ true → Walk (next graph) x z
  Walk-from_reaches zero x z e = subst (Walk (next graph) x) (nat_eq_is x z e) here
  Walk-from_reaches (suc n) x z e = elim (or_cases (nat_eq x z) (list_any (reaches graph n z) (next graph x)) e) [
    | inl same ↦ subst (Walk (next graph) x) (nat_eq_is x z same) here
    | inr there ↦ let a = Any-from_list_any (reaches graph n z) (next graph x) there in step (a.0, a.2, a.3) (Walk-from_reaches n a.1 z a.4)
  ]

  -- so the mark of a node, of those to which walks lead, says whether it is reached
  pub marked_reaches : (marks : List Bool) (target start : ℕ) → IsGraph graph → start < length graph → ((x : ℕ) → IsSeen marks x ↔ Walk (next graph) start x) → get_or marks target false ≡ reaches graph (length graph) target start
  marked_reaches marks target start is b seen =
      both_ways (get_or marks target false) (reaches graph (length graph) target start)
      (λ m. reaches-from_Walk start target is b ((seen target).0 m))
      (λ e. (seen target).1 (Walk-from_reaches (length graph) start target e))
