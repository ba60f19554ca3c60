-- How violating paths end, and a broken state at time 0.
use Rattle.std.proofs.Common.{◌≡◌, ℕ, zero, suc, ◌+◌, ◌≤◌, Bool, true, ◌&&◌, List, [], ◌∷◌, map, length, refl, sym, ◌∙◌, ap, subst, arith}
use Rattle.bdd_store.specs.declared.Ref.{Ref}
use Rattle.bdd_store.specs.Diagram.{Diagram, IsLive, AreLive, table}
use Rattle.bdd_ops.specs.Functions.{Function}
use Rattle.smv_rings.specs.declared.Rel.{Rel}
use Rattle.smv_rings.specs.Lists.{Lists, State, both, at, all_of, IsCurrent, AllCurrent, IsRel, lists_of, refs_of}
use Rattle.smv_rings.specs.Paths.{Starts, Ends, Violates, IsViolating}
use Rattle.smv_rings.specs.Ops.{IsOneOf}
use Rattle.smv_rings.proofs.Early.{and_true, true_and}
use Rattle.smv_rings.proofs.Refs.{each_live, live_each}
use Rattle.smv_ring_paths.specs.Steps.{GoesOn}
use Rattle.smv_ring_paths.specs.BitPaths.{by_time}

-- ---- from a path to one of its states a path to the end

pub goes_some : (l : Lists) (r : State) (states : List State) → GoesOn l r states → 1 ≤ length states
goes_some l r [] goes = absurd goes
goes_some l r (s ∷ states) goes = omega arith

pub violates_on : (l : Lists) (r : State) (states : List State) (j n : ℕ) → GoesOn l r states → Ends l j r → j + length states ≡ n → (u : State) × Violates l n u
unfolding Ends Violates
violates_on l r [] j n goes ends e = absurd goes
violates_on l r (s ∷ []) j n goes ends e = let is : suc j ≡ n = omega arith in subst (λ (m : ℕ). (u : State) × Violates l m u) is (s, (r, ends, goes.0, goes.1))
violates_on l r (s ∷ t ∷ states) j n goes ends e = violates_on l s (t ∷ states) (suc j) n goes.1 (r, ends, goes.0) (omega arith)

-- ---- a list of states as a path

steps_at : (l : Lists) (r : State) (states : List State) → GoesOn l r states → (i : ℕ) → suc i ≤ length states → all_of l.now_step (both (by_time (r ∷ states) i) (by_time (r ∷ states) (suc i))) ≡ true
steps_at l r [] goes i le = absurd goes
steps_at l r (s ∷ []) goes zero le = goes.0
steps_at l r (s ∷ []) goes (suc i) le = absurd (omega arith)
steps_at l r (s ∷ t ∷ states) goes zero le = goes.0.0
steps_at l r (s ∷ t ∷ states) goes (suc i) le = steps_at l s (t ∷ states) goes.1 i (omega arith)

before_at : (l : Lists) (r : State) (states : List State) → GoesOn l r states → (i : ℕ) → suc (suc i) ≤ length states → all_of l.before_step (both (by_time (r ∷ states) i) (by_time (r ∷ states) (suc i))) ≡ true
before_at l r [] goes i le = absurd goes
before_at l r (s ∷ []) goes i le = absurd (omega arith)
before_at l r (s ∷ t ∷ states) goes zero le = goes.0.1
before_at l r (s ∷ t ∷ states) goes (suc i) le = before_at l s (t ∷ states) goes.1 i (omega arith)

broken_at : (l : Lists) (r : State) (states : List State) → GoesOn l r states → (i : ℕ) → suc i ≡ length states → l.broken_step (both (by_time (r ∷ states) i) (by_time (r ∷ states) (suc i))) ≡ true
broken_at l r [] goes i e = absurd goes
broken_at l r (s ∷ []) goes zero e = goes.1
broken_at l r (s ∷ []) goes (suc i) e = absurd (omega arith)
broken_at l r (s ∷ t ∷ states) goes zero e = absurd (omega arith)
broken_at l r (s ∷ t ∷ states) goes (suc i) e = broken_at l s (t ∷ states) goes.1 i (omega arith)

pub violating_list : (l : Lists) (r : State) (states : List State) → Starts l r → GoesOn l r states → IsViolating l (length states) (by_time (r ∷ states))
violating_list l r states starts goes = record {
  starts = starts.0;
  starts_before = λ le. starts.1;
  steps = λ i le. steps_at l r states goes i le;
  steps_before = λ i le. before_at l r states goes i le;
  broken_first = λ e. absurd (let some = goes_some l r states goes in omega arith);
  broken_step = λ i e. broken_at l r states goes i e;
}

pub violating_one : (l : Lists) (s : State) → Violates l 0 s → IsViolating l 0 (by_time (s ∷ []))
unfolding Violates
violating_one l s violates = record {
  starts = violates.0;
  starts_before = λ le. absurd (omega arith);
  steps = λ i le. absurd (omega arith);
  steps_before = λ i le. absurd (omega arith);
  broken_first = λ e. violates.1;
  broken_step = λ i e. absurd (omega arith);
}

-- ---- a broken state at time 0

and_alike : (x y u v : Bool) → x ≡ u → y ≡ v → x && y ≡ u && v
and_alike x y u v e g = ap (λ z. z && y) e ∙ ap (λ z. u && z) g

all_current : (fs : List Function) → AllCurrent fs → IsCurrent (all_of fs)
all_current [] all b a = refl
all_current (f ∷ fs) all b a = and_alike _ _ _ _ (all.0 b a) (all_current fs all.1 b a)

-- a list of the Rel that is seen as a slice
pub part_live : (d : Diagram) (rel : Rel) (part shown : List Ref) → IsRel d rel → ((r : Ref) → IsOneOf r part → IsOneOf r (refs_of rel)) → shown ≡ part → AreLive d shown
part_live d rel part shown ok sub e = subst (AreLive d) (sym e) (live_each d part (λ r one. each_live d (refs_of rel) ok.live r (sub r one)))

pub one_live : (d : Diagram) (rel : Rel) → IsRel d rel → (r : Ref) → IsOneOf r (refs_of rel) → IsLive d r
one_live d rel ok = each_live d (refs_of rel) ok.live

module _ (d e : Diagram) (rel : Rel) (ok : IsRel d rel) (f : Ref) (shown : List Ref) (is_shown : shown ≡ rel.now_first.items) (is : (a : ℕ → Bool) → table e f a ≡ (table d rel.broken_first a && all_of (map (table d) shown) a)) where
  first_is : table e f ≡ (λ (a : ℕ → Bool). table d rel.broken_first a && all_of (map (table d) rel.now_first.items) a)
  first_is = λ i a. (is a ∙ ap (λ rs. table d rel.broken_first a && all_of (map (table d) rs) a) is_shown) i

  pub first_current : IsCurrent (table e f)
  first_current = subst IsCurrent (sym first_is) (λ b a. and_alike _ _ _ _ (ok.broken_first b a) (all_current (map (table d) rel.now_first.items) ok.now_first b a))

  pub first_some : ((s : State) × Violates (lists_of d rel) 0 s) → (s : State) × (table e f (at s) ≡ true)
  unfolding Violates lists_of
  first_some (s, violates) = (s, ap (λ (g : Function). g (at s)) first_is ∙ true_and (table d rel.broken_first (at s)) (all_of (map (table d) rel.now_first.items) (at s)) violates.1 violates.0)

  pub first_violates : (s : State) → table e f (at s) ≡ true → Violates (lists_of d rel) 0 s
  unfolding Violates lists_of
  first_violates s e = let parts = and_true (table d rel.broken_first (at s)) (all_of (map (table d) rel.now_first.items) (at s)) (sym (ap (λ (g : Function). g (at s)) first_is) ∙ e) in (parts.1, parts.0)
