-- Units that reach one another along uses are those between which walks lead.
use Rattle.std.proofs.Common.{◌≡◌, ℕ, zero, suc, ◌<◌, ◌↔◌, ◌≤◌, List, [], length, get_or, Bool, true, not, ◌&&◌, ◌||◌, ap, sym, subst, ◌∙◌, ◌⊎◌, inl, inr, Some, nat_eq, nat_lt, arith}
use Rattle.std.specs.List.{Contains}
use Rattle.std.proofs.lemmas.List.{get_or_past}
use Rattle.std.proofs.lemmas.Bool.{or_cases}
use Rattle.law_lists.proofs.Numbers.{nat_eq-is}
use Rattle.law_lists.proofs.Booleans.{either_left, either_right, and_both, left_of, right_of, same_tests}
use Rattle.law_obligations.specs.Sets.{Has}
use Rattle.law_obligations.specs.Uses.{reaches_through}
use Rattle.law_obligations.proofs.Members.{any-found, any-some}
use Rattle.law_obligations.proofs.Same.{nat_eq-itself}
use Rattle.law_obligations.specs.Times.{is_member, has_edge, time_of, unit_time}
use Rattle.graph_search.specs.Walks.{Walk, here, step}
use Rattle.graph_search.specs.Reverse.{after, IsGraph}
use Rattle.graph_components.specs.Components.{AreComponents, AreMates}
use Rattle.law_use_times.proofs.Lists.{Contains-Has, Has-Contains}

-- along any edges
module _ (edge : ℕ → ℕ → Bool) where
  by_edge : (k u v : ℕ) → edge u v ≡ true → reaches_through edge k u v ≡ true
  by_edge zero u v e = either_right (nat_eq u v) e
  by_edge (suc k) u v e = either_left _ (by_edge k u v e)

  itself : (k u : ℕ) → reaches_through edge k u u ≡ true
  itself zero u = either_left (edge u u) (nat_eq-itself u)
  itself (suc k) u = either_left _ (itself k u)

  to_last : (k u : ℕ) → reaches_through edge (suc k) u k ≡ true → reaches_through edge k u k ≡ true
  to_last k u e = elim (or_cases (reaches_through edge k u k) _ e) [ inl p ↦ p | inr p ↦ left_of _ _ p ]

  from_last : (k v : ℕ) → reaches_through edge (suc k) k v ≡ true → reaches_through edge k k v ≡ true
  from_last k v e = elim (or_cases (reaches_through edge k k v) _ e) [ inl p ↦ p | inr p ↦ right_of (reaches_through edge k k k) _ p ]

  joined : (k u m v : ℕ) → m < k → reaches_through edge k u m ≡ true → reaches_through edge k m v ≡ true → reaches_through edge k u v ≡ true
  joined zero u m v l p q = absurd (omega arith)
  joined (suc k) u m v l p q = elim (last_or_below m k l) [
    | inl e ↦ either_right (reaches_through edge k u v)
        (and_both (to_last k u (subst (λ z. reaches_through edge (suc k) u z ≡ true) e p)) (from_last k v (subst (λ z. reaches_through edge (suc k) z v ≡ true) e q)))
    | inr b ↦ elim (or_cases (reaches_through edge k u m) _ p) [
      | inl p1 ↦ elim (or_cases (reaches_through edge k m v) _ q) [
        | inl q1 ↦ either_left _ (joined k u m v b p1 q1)
        | inr q2 ↦ either_right (reaches_through edge k u v) (and_both (joined k u m k b p1 (left_of _ _ q2)) (right_of (reaches_through edge k m k) _ q2))
      ]
      | inr p2 ↦ elim (or_cases (reaches_through edge k m v) _ q) [
        | inl q1 ↦ either_right (reaches_through edge k u v) (and_both (left_of _ _ p2) (joined k k m v b (right_of (reaches_through edge k u k) _ p2) q1))
        | inr q2 ↦ either_right (reaches_through edge k u v) (and_both (left_of _ _ p2) (right_of (reaches_through edge k m k) _ q2))
      ]
    ]
  ]
    where
      last_or_below : (m k : ℕ) → m < suc k → (m ≡ k) ⊎ (m < k)
      last_or_below m k l = grind arith

-- along those of a graph
module _ (edges : List (List ℕ)) where
  then : {u v w : ℕ} → Walk (after edges) u v → Walk (after edges) v w → Walk (after edges) u w
  then here q = q
  then (step c p) q = step c (then p q)

  edge-Contains : (u v : ℕ) → has_edge edges u v ≡ true → Contains (after edges u) v
  edge-Contains u v e = let r = any-some (nat_eq v) (get_or edges u []) e in Has-Contains (subst (Has (get_or edges u [])) (sym (nat_eq-is v r.0 r.2)) r.1)

  Contains-edge : (u v : ℕ) → Contains (after edges u) v → has_edge edges u v ≡ true
  Contains-edge u v c = any-found (nat_eq v) (Contains-Has (get_or edges u []) v c) (nat_eq-itself v)

  -- only units have edges
  edge-below : (u v : ℕ) → has_edge edges u v ≡ true → u < length edges
  edge-below u v e = elim (before_or_past u (length edges)) [
    | inl l ↦ l
    | inr p ↦ absurd (let f = sym (ap (λ l. is_member l v) (get_or_past edges u [] p)) ∙ e in cc)
  ]
    where
      before_or_past : (m n : ℕ) → (m < n) ⊎ (n ≤ m)
      before_or_past m n = grind arith

  reached-Walk : (k u v : ℕ) → reaches_through (has_edge edges) k u v ≡ true → Walk (after edges) u v
  reached-Walk zero u v e = elim (or_cases (nat_eq u v) (has_edge edges u v) e) [
    | inl s ↦ subst (Walk (after edges) u) (nat_eq-is u v s) here
    | inr h ↦ step (edge-Contains u v h) here
  ]
  reached-Walk (suc k) u v e = elim (or_cases (reaches_through (has_edge edges) k u v) _ e) [
    | inl p ↦ reached-Walk k u v p
    | inr p ↦ then (reached-Walk k u k (left_of _ _ p)) (reached-Walk k k v (right_of (reaches_through (has_edge edges) k u k) _ p))
  ]

  Walk-reached : {u v : ℕ} → Walk (after edges) u v → reaches_through (has_edge edges) (length edges) u v ≡ true
  Walk-reached here = itself (has_edge edges) (length edges) _
  Walk-reached (step {x = u} {y = y} {z = v} c w) = on u y v (by_edge (has_edge edges) (length edges) u y (Contains-edge u y c)) w (Walk-reached w)
    where
      on : (u y v : ℕ) → reaches_through (has_edge edges) (length edges) u y ≡ true → Walk (after edges) y v → reaches_through (has_edge edges) (length edges) y v ≡ true → reaches_through (has_edge edges) (length edges) u v ≡ true
      on u y v p here q = p
      on u y v p (step {y = z} d w) q = joined (has_edge edges) (length edges) u y v (edge-below y z (Contains-edge y z d)) p q

  module _ (u v : ℕ) (labels : List ℕ) (is_graph : IsGraph edges) (are : AreComponents edges labels) (e : has_edge edges u v ≡ true) where
    abbrev label : ℕ → ℕ
    label x = get_or labels x 0

    there : Contains (after edges u) v
    there = edge-Contains u v e

    mates : (label v ≡ label u) ↔ AreMates edges v u
    mates = are.same v u (is_graph u v there) (edge-below u v e)

    same_label : nat_eq (label v) (label u) ≡ reaches_through (has_edge edges) (length edges) v u
    same_label = same_tests _ _
        (λ s. Walk-reached (mates.0 (nat_eq-is (label v) (label u) s)).0)
        (λ r. subst (λ z. nat_eq (label v) z ≡ true) (mates.1 (reached-Walk (length edges) v u r, step there here)) (nat_eq-itself (label v)))

    pub now-by_labels : unit_time edges u (Some v) ≡ time_of (not (nat_eq (get_or labels v 0) (get_or labels u 0)) || nat_lt v u)
    now-by_labels =
        ap (λ b. time_of (b && (not (reaches_through (has_edge edges) (length edges) v u) || nat_lt v u))) e
        ∙ ap (λ b. time_of (not b || nat_lt v u)) (sym same_label)
