-- One state of a set, and one that leads to a state.
use Rattle.std.proofs.Common.{◌≡◌, ◌↔◌, ℕ, ◌+◌, ◌*◌, ◌/◌, ◌<◌, Bool, true, ◌&&◌, List, [], ◌∷◌, map, length, refl, sym, ◌∙◌, ap, subst, arith, inl, inr}
use Rattle.bdd_store.specs.declared.Ref.{Ref}
use Rattle.bdd_store.specs.Diagram.{Diagram, IsLive, AreLive, table, Keeps}
use Rattle.bdd_store.proofs.Keeping.{table_kept, functions_kept}
use Rattle.bdd_ops.specs.Functions.{Function, bit_at}
use Rattle.smv_rings.specs.Functions.{DependsBelow}
use Rattle.smv_rings.specs.Lists.{State, both, at, all_of, IsCurrent}
use Rattle.smv_rings.proofs.Early.{and_true, true_and}
use Rattle.smv_rings.proofs.Image.{both_odd, both_even, current_pair}
use Rattle.smv_rings.proofs.Tables.{table_below}
use Rattle.smv_ring_paths.specs.Steps.{IsStep}
use Rattle.smv_ring_paths.proofs.Joins.{even_or_odd}

-- a function of current bits at a step is that at its old state
pub table_at : (d : Diagram) (f : Ref) → IsCurrent (table d f) → (s t : State) → table d f (both s t) ≡ table d f (at s)
table_at d f current s t = current_pair d.vars (table d f) (table_below d f) current s t

pub state_found : (d : Diagram) (f : Ref) → IsCurrent (table d f) → (s : State) → ((t : State) × (table d f (both s t) ≡ true)) → table d f (at s) ≡ true
state_found d f current s (t, e) = sym (table_at d f current s t) ∙ e

all_below : (d : Diagram) (fs : List Ref) → DependsBelow d.vars (all_of (map (table d) fs))
all_below d [] a c same = refl
all_below d (f ∷ fs) a c same = ap (λ x. x && all_of (map (table d) fs) a) (table_below d f a c same) ∙ ap (λ x. table d f c && x) (all_below d fs a c same)

-- steps are the same in a store that keeps the functions
module _ (d e : Diagram) (keeps : Keeps d e) (set : Ref) (fs : List Ref) (set_live : IsLive d set) (live : AreLive d fs) where
  set_is : table e set ≡ table d set
  set_is = table_kept d e set keeps set_live

  fs_are : map (table e) fs ≡ map (table d) fs
  fs_are = functions_kept d e fs keeps live

  pub step_later : (r s : State) → IsStep (table d set) (map (table d) fs) r s → IsStep (table e set) (map (table e) fs) r s
  step_later r s step = subst (λ (f : Function). IsStep f (map (table e) fs) r s) (sym set_is) (subst (λ (gs : List Function). IsStep (table d set) gs r s) (sym fs_are) step)

  pub step_before : (r s : State) → IsStep (table e set) (map (table e) fs) r s → IsStep (table d set) (map (table d) fs) r s
  step_before r s step = subst (λ (f : Function). IsStep f (map (table d) fs) r s) set_is (subst (λ (gs : List Function). IsStep (table e set) gs r s) fs_are step)

  pub current_later : IsCurrent (table d set) → IsCurrent (table e set)
  current_later current = subst IsCurrent (sym set_is) current

-- the steps to a state, those of them that come from the set, and those in which all functions hold
module _ (d e f g : Diagram) (set : Ref) (fs : List Ref) (next : List Bool) (to_next from_set steps : Ref) (keeps : Keeps d e) (then_keeps : Keeps e f) (set_live : IsLive d set) (live : AreLive d fs) (live_then : AreLive e fs)
    (current : IsCurrent (table d set)) (vars : d.vars ≡ 2 * length next)
    (to_is : (a : ℕ → Bool) → (table e to_next a ≡ true) ↔ ((b : ℕ) → b < length next → a (2 * b + 1) ≡ bit_at next b))
    (from_is : (a : ℕ → Bool) → table f from_set a ≡ (table e to_next a && table e set a))
    (steps_are : (a : ℕ → Bool) → table g steps a ≡ (table f from_set a && all_of (map (table f) fs) a)) where
  all_are : (a : ℕ → Bool) → table g steps a ≡ ((table e to_next a && table d set a) && all_of (map (table d) fs) a)
  all_are a =
      steps_are a
      ∙ ap (λ x. x && all_of (map (table f) fs) a) (from_is a ∙ ap (λ x. table e to_next a && x) (keeps.tables set set_live a))
      ∙ ap (λ gs. (table e to_next a && table d set a) && all_of gs a) (functions_kept e f fs then_keeps live_then ∙ functions_kept d e fs keeps live)

  pub step_is_some : ((r : State) × IsStep (table d set) (map (table d) fs) r (bit_at next)) → (a : ℕ → Bool) × (table g steps a ≡ true)
  step_is_some (r, step) =
      let a : ℕ → Bool = both r (bit_at next) in
      let to : table e to_next a ≡ true = (to_is a).1 (λ b lt. both_odd r (bit_at next) (2 * b + 1) (omega arith) ∙ ap (bit_at next) (omega arith)) in
      let from : table d set a ≡ true = table_at d set current r (bit_at next) ∙ step.is_from in
      (a, all_are a ∙ true_and (table e to_next a && table d set a) (all_of (map (table d) fs) a) (true_and (table e to_next a) (table d set a) to from) step.holds)

  pub step_found : (r : State) → ((t : State) × (table g steps (both r t) ≡ true)) → IsStep (table d set) (map (table d) fs) r (bit_at next)
  step_found r (t, is) =
      let a : ℕ → Bool = both r t in
      let parts = and_true (table e to_next a && table d set a) (all_of (map (table d) fs) a) (sym (all_are a) ∙ is) in
      let sets = and_true (table e to_next a) (table d set a) parts.0 in
      let same : (v : ℕ) → v < d.vars → both r t v ≡ both r (bit_at next) v = λ v lt. elim (even_or_odd v) [
        | inl even ↦ both_even r t v even ∙ sym (both_even r (bit_at next) v even)
        | inr odd ↦
            both_odd r t v odd ∙ sym (both_odd r t (2 * (v / 2) + 1) (omega arith) ∙ ap t (omega arith)) ∙ (to_is a).0 sets.0 (v / 2) (omega arith)
            ∙ sym (both_odd r (bit_at next) v odd)
      ] in
      record {
        is_from = sym (table_at d set current r t) ∙ sets.1;
        holds = sym (all_below d fs (both r t) (both r (bit_at next)) same) ∙ parts.1;
      }
