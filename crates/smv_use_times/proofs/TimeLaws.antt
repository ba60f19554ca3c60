-- Times by labels of components, one leaf after another.
use Rattle.std.proofs.Common.{◌≡◌, ℕ, zero, suc, ◌+◌, ◌<◌, ◌≤◌, List, [], ◌∷◌, ◌++◌, map, drop, length, get_or, Bool, true, false, not, ◌&&◌, ◌||◌, if◌then◌else◌, refl, ap, sym, subst, ◌∙◌, Some, nat_eq, nat_lt, arith, add-one, drop-cons}
use Rattle.std.specs.List.{flat_map, list_any}
use Rattle.std.proofs.lemmas.List.{append-nil, append_assoc, drop_all}
use Rattle.law_lists.proofs.Numbers.{nat_eq-is, nat_eq-not_turned}
use Rattle.smv_core.specs.declared.flat.Timing.{Timing}
use Rattle.smv_core.specs.declared.flat.Timing.TheVariants.{Before}
use Rattle.smv_core.specs.declared.flat.Timed.{Timed}
use Rattle.law_obligations.specs.Sets.{Has, first}
use Rattle.law_obligations.specs.Uses.{reaches_through}
use Rattle.law_obligations.proofs.Members.{Has-left, Has-right, any-found}
use Rattle.law_obligations.proofs.Same.{nat_eq-itself}
use Rattle.law_obligations.specs.Times.{has_edge, time_of, unit_time}
use Rattle.graph_search.specs.Reverse.{after, IsGraph}
use Rattle.graph_components.specs.Components.{AreComponents}
use Rattle.law_use_times.proofs.Walking.{now-by_labels}
use Rattle.smv_use_times.specs.declared.uses.Use.{Use}
use Rattle.smv_use_times.specs.declared.uses.LeafUses.{LeafUses}
use Rattle.smv_use_times.specs.declared.uses.Use.TheVariants.{Settled, Open}
use Rattle.smv_use_times.specs.Uses.{Uses, held}
use Rattle.smv_use_times.specs.Times.{edge_of, edges_of, edges_from, use_time, times_of, times_from, time_by, timed_by, timed_from}

-- ---- one use

module _ (edges : List (List ℕ)) (u : ℕ) (labels : List ℕ) (is_graph : IsGraph edges) (are : AreComponents edges labels) where
  -- of the unit itself
  own-time : (v : ℕ) → has_edge edges u u ≡ false → nat_eq v u ≡ true → Before ≡ unit_time edges u (Some v)
  own-time v e s = sym (ap (λ w. unit_time edges u (Some w)) (nat_eq-is v u s) ∙ ap (λ b. time_of (b && (not (reaches_through (has_edge edges) (length edges) u u) || nat_lt u u))) e)

  one-time : (x : Use) → ((v : ℕ) → Has (edge_of u x) v → has_edge edges u v ≡ true) → has_edge edges u u ≡ false → time_by labels u x ≡ use_time edges u x
  one-time (Settled time) each own = refl
  one-time (Open v) each own = at (nat_eq v u) refl
    where
      at : (b : Bool) → nat_eq v u ≡ b → (if b then Before else time_of (not (nat_eq (get_or labels v 0) (get_or labels u 0)) || nat_lt v u)) ≡ unit_time edges u (Some v)
      at true s = own-time v own s
      at false n = sym (now-by_labels edges u v labels is_graph are (each v (subst (λ b. Has (if b then [] else v ∷ []) v) (sym n) first)))

  all-times : (xs : List Use) → ((v : ℕ) → Has (flat_map (edge_of u) xs) v → has_edge edges u v ≡ true) → has_edge edges u u ≡ false → map (time_by labels u) xs ≡ map (use_time edges u) xs
  all-times [] each own = refl
  all-times (x ∷ xs) each own =
      ap (λ t. t ∷ map (time_by labels u) xs) (one-time x (λ v h. each v (Has-left (flat_map (edge_of u) xs) h)) own)
      ∙ ap (λ l. use_time edges u x ∷ l) (all-times xs (λ v h. each v (Has-right (edge_of u x) h)) own)

-- ---- one leaf

own-edge : (u v : ℕ) (b : Bool) (rest : List ℕ) → nat_eq v u ≡ b → list_any (nat_eq u) rest ≡ false → list_any (nat_eq u) ((if b then [] else v ∷ []) ++ rest) ≡ false
own-edge u v true rest e known = known
own-edge u v false rest e known = ap (λ b. b || list_any (nat_eq u) rest) (nat_eq-not_turned v u e) ∙ known

no-own : (u : ℕ) (xs : List Use) → list_any (nat_eq u) (flat_map (edge_of u) xs) ≡ false
no-own u [] = refl
no-own u (Settled time ∷ xs) = no-own u xs
no-own u (Open v ∷ xs) = own-edge u v (nat_eq v u) (flat_map (edge_of u) xs) refl (no-own u xs)

any-both : (f : ℕ → Bool) (xs ys : List ℕ) → list_any f xs ≡ false → list_any f ys ≡ false → list_any f (xs ++ ys) ≡ false
any-both f xs ys p q = any-append f xs ys ∙ (ap (λ b. b || list_any f ys) p ∙ q)
  where
    any-append : (f : ℕ → Bool) (xs ys : List ℕ) → list_any f (xs ++ ys) ≡ (list_any f xs || list_any f ys)
    any-append f [] ys = refl
    any-append f (x ∷ xs) ys = ap (λ b. f x || b) (any-append f xs ys) ∙ assoc (f x) (list_any f xs) (list_any f ys)
      where
        assoc : (a b c : Bool) → (a || (b || c)) ≡ ((a || b) || c)
        assoc true b c = refl
        assoc false b c = refl

abbrev both_times : List Timing → List Timing → Timed
both_times picks claims = record { picks = picks; claims = claims }

leaf-timed : (edges : List (List ℕ)) (u : ℕ) (labels : List ℕ) (uses : Uses) → IsGraph edges → AreComponents edges labels → after edges u ≡ edges_of u uses → timed_by labels u uses ≡ times_of edges u uses
leaf-timed edges u labels uses is_graph are is =
    ap (λ l. both_times l (map (time_by labels u) uses.claims)) (all-times edges u labels is_graph are uses.picks (λ v h. has v (Has-left (flat_map (edge_of u) uses.claims) h)) own)
    ∙ ap (both_times (map (use_time edges u) uses.picks)) (all-times edges u labels is_graph are uses.claims (λ v h. has v (Has-right (flat_map (edge_of u) uses.picks) h)) own)
  where
    has : (v : ℕ) → Has (edges_of u uses) v → has_edge edges u v ≡ true
    has v h = ap (list_any (nat_eq v)) is ∙ any-found (nat_eq v) h (nat_eq-itself v)

    own : has_edge edges u u ≡ false
    own = ap (list_any (nat_eq u)) is ∙ any-both (nat_eq u) (flat_map (edge_of u) uses.picks) (flat_map (edge_of u) uses.claims) (no-own u uses.picks) (no-own u uses.claims)

-- ---- one leaf after another

after-from : (s : ℕ) (all : List Uses) (k : ℕ) (uses : Uses) → k < length all → uses ≡ get_or all k uses → get_or (edges_from s all) k [] ≡ edges_of (s + k) uses
after-from s [] k uses h e = absurd (omega arith)
after-from s (x ∷ all) zero uses h e = ap (edges_of s) (sym e) ∙ ap (λ n. edges_of n uses) (let same : s ≡ s + 0 = omega arith in same)
after-from s (x ∷ all) (suc k) uses h e = after-from (suc s) all k uses (omega arith) e ∙ ap (λ n. edges_of n uses) (let same : suc s + k ≡ s + suc k = omega arith in same)

module _ (edges : List (List ℕ)) (labels : List ℕ) (is_graph : IsGraph edges) (are : AreComponents edges labels) where
  from-timed : (s : ℕ) (rest : List Uses) → ((k : ℕ) (uses : Uses) → k < length rest → uses ≡ get_or rest k uses → after edges (s + k) ≡ edges_of (s + k) uses) → timed_from labels s rest ≡ times_from edges s rest
  from-timed s [] each = refl
  from-timed s (uses ∷ rest) each =
      ap (λ t. t ∷ timed_from labels (suc s) rest)
      (leaf-timed edges s labels uses is_graph are (subst (λ n. after edges n ≡ edges_of n uses) (let same : s + 0 ≡ s = omega arith in same) (each 0 uses (omega arith) refl)))
      ∙ ap (λ l. times_of edges s uses ∷ l)
      (from-timed (suc s) rest (λ k other h e. subst (λ n. after edges n ≡ edges_of n other) (let same : s + suc k ≡ suc s + k = omega arith in same) (each (suc k) other (omega (arith, h)) e)))

-- one leaf more
pub one_timed : (labels : List ℕ) (all : List LeafUses) (k : ℕ) (uses : LeafUses) (old new : List Timed) (timed : Timed) (whole : List Timed) → k < length all → uses ≡ get_or all k uses → timed ≡ timed_by labels k (held uses) → new ≡ old ++ timed ∷ [] →
    old ++ timed_from labels k (map held (drop k all)) ≡ whole → new ++ timed_from labels (k + 1) (map held (drop (k + 1) all)) ≡ whole
one_timed labels all k uses old new timed whole h e is more known =
    let from_here : drop k all ≡ uses ∷ drop (suc k) all = drop-cons all k uses h ∙ ap (λ x. x ∷ drop (suc k) all) (sym e) in
    ap (λ l. l ++ timed_from labels (k + 1) (map held (drop (k + 1) all))) more
    ∙ append_assoc old (timed ∷ []) (timed_from labels (k + 1) (map held (drop (k + 1) all)))
    ∙ ap (λ n. old ++ timed ∷ timed_from labels n (map held (drop n all))) (add-one k)
    ∙ ap (λ t. old ++ t ∷ timed_from labels (suc k) (map held (drop (suc k) all))) is
    ∙ ap (λ rest. old ++ timed_from labels k (map held rest)) (sym from_here)
    ∙ known

-- all of them, where those from a place on are none
pub labelled_times : (all : List LeafUses) (graph : List (List ℕ)) (labels : List ℕ) (times : List Timed) (place : ℕ) → graph ≡ edges_from 0 (map held all) → IsGraph (edges_from 0 (map held all)) → AreComponents graph labels → length all ≤ place →
    times ++ timed_from labels place (map held (drop place all)) ≡ timed_from labels 0 (map held all) → times ≡ times_from (edges_from 0 (map held all)) 0 (map held all)
labelled_times all graph labels times place e is_graph are past so_far =
    sym (append-nil times)
    ∙ sym (ap (λ rest. times ++ timed_from labels place (map held rest)) (drop_all place all past))
    ∙ so_far
    ∙ from-timed (edges_from 0 (map held all)) labels is_graph (subst (λ g. AreComponents g labels) e are) 0 (map held all)
    (λ k uses h is. subst (λ n. after (edges_from 0 (map held all)) n ≡ edges_of (0 + k) uses) (let same : k ≡ 0 + k = omega arith in same) (after-from 0 (map held all) k uses h is))
